use Rattle.matching.proofs.Telling.{telling}
use Rattle.matching.proofs.questions_tell_what_is_open_and_chosen.Goals as goal

pub returns : goal.returns
returns c = telling
