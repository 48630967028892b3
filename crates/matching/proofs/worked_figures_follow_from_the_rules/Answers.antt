use Rattle.matching.proofs.Figures.{figures}
use Rattle.matching.proofs.worked_figures_follow_from_the_rules.Goals as goal

pub returns : goal.returns
returns c = figures
