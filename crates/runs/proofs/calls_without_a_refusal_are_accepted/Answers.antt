use Rattle.runs.proofs.Steps.{accepting}
use Rattle.runs.proofs.calls_without_a_refusal_are_accepted.Goals as goal

pub returns : goal.returns
returns c = accepting
