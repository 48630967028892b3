use Rattle.std.proofs.Common.{◌+◌, refl, ◌∙◌, arith}
use Rattle.board.proofs.Answering.{written_first, written_same, written_more, written_all, one_more, count_bound}
use Rattle.board.proofs.boards.Board.write.Goals as goal
use Rattle.board.proofs.boards.Board.write.Goals.{in-Some+then-row-at-ge3, in-Some+else-row-at-ge3, in_default}

pub loop-low-init : goal.loop-low-init
loop-low-init g c = (refl, omega arith, λ serves room. written_first serves c.args.row.now)

pub loop-low-preserved : goal.loop-low-preserved
loop-low-preserved g c =
    let l = c.loop-low in
    let long = c.match-higher_end.auto.row ∙ l.invariant.0 in
    elim c.match-higher_end.branch [
      | in-Some+then-row-at-ge3 w ↦ (
        long,
        omega arith,
        λ serves room.
            rw (w.row-is, w.at-is, w.write_pair.ensures)
            (written_more serves l.low w.in-Some.high w.in-Some.saving l.at c.args.row.now l.row
            (w.in-Some.ensures serves) (l.invariant.2 serves room)),
      )
      | in-Some+else-row-at-ge3 w ↦ (
        long,
        omega arith,
        λ serves room.
            let next = one_more serves l.low _ _ (w.in-Some.ensures serves) in
            absurd (omega (arith, l.invariant.0, (l.invariant.2 serves room).places, next.count, count_bound serves (l.low + 1))),
      )
      | in_default w ↦ (
        long,
        omega arith,
        λ serves room.
            rw (w.row-is, w.at-is)
            (written_same serves l.low l.at c.args.row.now l.row (w.in_default.ensures serves) (l.invariant.2 serves room)),
      )
    ]

pub returns : goal.returns
returns g c serves room =
    let l = c.loop-low in
    written_all serves l.low l.at c.args.row.now l.row c.loop-low-test.false (l.invariant.2 serves room)
