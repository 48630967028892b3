use Rattle.feeding.proofs.ways.BoardedWayBoard.take_off.Goals as goal

pub returns-clause-exact : goal.returns-clause-exact
returns-clause-exact g c = λ serves. let done = c.in_ok-withdraw.ensures.exact serves in (done.0, done.1)
