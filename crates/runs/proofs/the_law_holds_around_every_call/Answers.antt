use Rattle.runs.proofs.Law.{law_of_calls}
use Rattle.runs.proofs.the_law_holds_around_every_call.Goals as goal

pub returns : goal.returns
returns c = law_of_calls
