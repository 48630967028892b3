use Rattle.matching.proofs.Kept.{combining}
use Rattle.matching.proofs.combining_settles_a_choice.Goals as goal

pub returns : goal.returns
returns c = combining
