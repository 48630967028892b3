use Rattle.settling.proofs.Moves.{couple_coupled}
use Rattle.settling.proofs.kept_pairs.KeptPairs.couple.Goals as goal

pub returns-clause-coupled : goal.returns-clause-coupled
returns-clause-coupled c =
    couple_coupled c.args.self.now c.release-first.new.self c.release-second.new.self c.set_height.new.self c.set_height-2.new.self
    c.args.meter c.args.mate c.release-first.result c.release-second.result
    c.release-first.ensures c.release-second.ensures c.set_height.ensures c.set_height-2.ensures
