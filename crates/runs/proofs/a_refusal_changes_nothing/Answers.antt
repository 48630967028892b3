use Rattle.runs.proofs.Steps.{refusing}
use Rattle.runs.proofs.a_refusal_changes_nothing.Goals as goal

pub returns : goal.returns
returns c = refusing
