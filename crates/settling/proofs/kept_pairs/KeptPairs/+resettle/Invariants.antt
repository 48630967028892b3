use Rattle.settling.proofs.Moves.{depth}
use Rattle.settling.proofs.kept_pairs.KeptPairs.+resettle.Given as goal

abbrev pub decreases-resettle : goal.decreases-resettle
decreases-resettle l = depth l.due
