use Rattle.std.proofs.Common.{rules}
use Rattle.matching.specs.Matching.{has}
use Rattle.trials.proofs.lone.LoneReader.mate.Goals as goal

pub returns-then-low-meter : goal.returns-then-low-meter
unfolding has
returns-then-low-meter c = search rules

pub returns-then-high-meter : goal.returns-then-high-meter
unfolding has
returns-then-high-meter c = search rules

pub returns-else-high-meter : goal.returns-else-high-meter
unfolding has
returns-else-high-meter c = search rules
