use Rattle.settling.proofs.Edits.{add_sound}
use Rattle.settling.proofs.kept_pairs.KeptPairs.add.Goals as goal

pub returns-then-can_join-clause-added : goal.returns-then-can_join-clause-added
returns-then-can_join-clause-added c =
    add_sound c.args.self.now c.resettle.new.self c.join.new.self c.args.a c.args.b c.args.level
    c.join.ensures.joined c.resettle.ensures
