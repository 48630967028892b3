use Rattle.matching.proofs.Ordered.{first_come}
use Rattle.matching.proofs.the_ordered_rule_prefers_the_earlier.Goals as goal

pub returns : goal.returns
returns c = first_come
