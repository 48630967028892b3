use Rattle.runs.proofs.Chain.{example}
use Rattle.runs.proofs.a_small_run_goes_as_written.Goals as goal

pub returns : goal.returns
returns c = example
