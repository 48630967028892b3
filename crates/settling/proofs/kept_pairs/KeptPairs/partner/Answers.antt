use Rattle.std.proofs.Common.{rules}
use Rattle.settling.proofs.Bridge.{shown_is_kept}
use Rattle.settling.proofs.kept_pairs.KeptPairs.partner.Goals as goal

pub returns-clause-kept : goal.returns-clause-kept
returns-clause-kept c = λ C h. shown_is_kept _ _ _ (search rules) C h
