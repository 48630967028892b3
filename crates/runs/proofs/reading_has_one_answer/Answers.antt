use Rattle.runs.proofs.Steps.{reading}
use Rattle.runs.proofs.reading_has_one_answer.Goals as goal

pub returns : goal.returns
returns c = reading
