use Rattle.matching.proofs.Ordered.{ordered_keeps}
use Rattle.matching.proofs.the_ordered_rule_is_a_keepers.Goals as goal

pub returns : goal.returns
returns c = ordered_keeps
