use Rattle.matching.proofs.Alter.{alteration}
use Rattle.matching.proofs.a_change_alters_few_kept_pairs.Goals as goal

pub returns : goal.returns
returns c = alteration
