use Rattle.matching.proofs.Nearest.{first_is_nearest}
use Rattle.matching.proofs.the_first_offer_is_the_nearest.Goals as goal

pub returns : goal.returns
returns c = first_is_nearest
