use Rattle.matching.proofs.Telling.{bare_lawful}
use Rattle.matching.proofs.a_keeper_begins_lawful.Goals as goal

pub returns : goal.returns
returns c = bare_lawful
