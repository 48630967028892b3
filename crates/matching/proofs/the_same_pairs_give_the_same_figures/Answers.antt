use Rattle.matching.proofs.Counts.{stored_anyhow}
use Rattle.matching.proofs.the_same_pairs_give_the_same_figures.Goals as goal

pub returns : goal.returns
returns c = stored_anyhow
