use Rattle.std.proofs.Common.{◌+◌, sym, ap, ◌∙◌, arith}
use Rattle.matching.specs.Matching.{total}
use Rattle.board.proofs.Answering.{at_first, none_more, one_more, in_the_end, sum_bound}
use Rattle.board.proofs.boards.Board.saved.Goals as goal
use Rattle.board.proofs.boards.Board.saved.Goals.{in-Some, in_default}

pub loop-meter-init : goal.loop-meter-init
loop-meter-init g c serves = ap total (sym (at_first serves))

pub loop-meter-preserved : goal.loop-meter-preserved
loop-meter-preserved g c serves =
    let l = c.loop-meter in
    elim c.match-higher_end.branch [
      | in-Some w ↦
          let next = one_more serves l.meter _ _ (w.in-Some.ensures serves) in
          omega (arith, w.sum-is, w.saturating_add-sum.ensures, l.invariant serves, next.sum, sum_bound serves (l.meter + 1))
      | in_default w ↦ w.sum-is ∙ l.invariant serves ∙ ap total (sym (none_more serves l.meter (w.in_default.ensures serves)))
    ]

pub returns : goal.returns
returns g c serves =
    let l = c.loop-meter in (
      l.invariant serves ∙ ap total (in_the_end serves l.meter c.loop-meter-test.false),
      omega (arith, l.invariant serves, sum_bound serves l.meter),
    )
