use Rattle.runs.proofs.Law.{law}
use Rattle.runs.proofs.the_law_holds_after_every_run.Goals as goal

pub returns : goal.returns
returns c = law
