use Rattle.matching.proofs.Ladder.{levels_by_powers}
use Rattle.matching.proofs.a_level_is_read_off_the_powers_of_the_ratio.Goals as goal

pub returns : goal.returns
returns c = levels_by_powers
