use Rattle.std.proofs.Common.{◌≡◌, length, is_some, sym, ap, ◌∙◌, arith}
use Rattle.settling.specs.Counts.{one}
use Rattle.settling.proofs.Counts.{byte_is, one_le}
use Rattle.board.proofs.Answering.{at_first, count_next, in_the_end}
use Rattle.board.proofs.boards.Board.count.Goals as goal

pub loop-meter-init : goal.loop-meter-init
loop-meter-init g c = (omega arith, λ serves. ap length (sym (at_first serves)))

pub loop-meter-preserved : goal.loop-meter-preserved
loop-meter-preserved g c =
    let l = c.loop-meter in
    let found = c.higher_end.result in
    let byte : c.from-count.result ≡ one (is_some found) = c.from-count.ensures ∙ byte_is _ ∙ ap one c.is_some.ensures in (
      omega (arith, one_le (is_some found), l.invariant.0),
      λ serves. omega (arith, l.invariant.1 serves, count_next serves l.meter found (c.higher_end.ensures serves)),
    )

pub returns-clause-value : goal.returns-clause-value
returns-clause-value g c = λ serves. let l = c.loop-meter in l.invariant.1 serves ∙ ap length (in_the_end serves l.meter c.loop-meter-test.false)
