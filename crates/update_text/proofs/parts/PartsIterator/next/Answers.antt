use Rattle.std.proofs.Common.{refl, rules}
use Rattle.update_text.proofs.Cutting.{took_last}
use Rattle.update_text.proofs.parts.PartsIterator.next.Goals as goal

pub returns-in-None-clause-steps : goal.returns-in-None-clause-steps
returns-in-None-clause-steps c =
    took_last c.args.self.now _ _ (search rules) (search rules) (search rules) (search rules) refl refl refl refl refl
