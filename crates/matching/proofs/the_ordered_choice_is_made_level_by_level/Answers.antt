use Rattle.matching.proofs.Ordered.{level_by_level}
use Rattle.matching.proofs.the_ordered_choice_is_made_level_by_level.Goals as goal

pub returns : goal.returns
returns c = level_by_level
