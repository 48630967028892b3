use Rattle.settling.proofs.Moves.{resettle_none, resettle_some, resettle_both}
use Rattle.settling.proofs.kept_pairs.KeptPairs.+resettle.Goals as goal

pub returns-in-Some-wanted : goal.returns-in-Some-wanted
returns-in-Some-wanted t c =
    let x = c.couple-first.result.0 in
    let y = c.couple-first.result.1 in
    rw c.in-Some.is
    (resettle_some c.args.self.now c.couple-first.new.self c.resettle-in-Some-wanted.new.self c.in-Some.due c.in-Some-wanted.mate x y
    c.in-Some-wanted.ensures c.couple-first.ensures.choice c.couple-first.ensures.coupled
    (resettle_both c.couple-first.new.self c.resettle.new.self c.resettle-in-Some-wanted.new.self x y c.resettle.ensures c.resettle-in-Some-wanted.ensures))

pub returns-in_default-wanted : goal.returns-in_default-wanted
returns-in_default-wanted t c = rw c.in-Some.is (resettle_none c.args.self.now c.in-Some.due c.in_default-wanted.ensures)
