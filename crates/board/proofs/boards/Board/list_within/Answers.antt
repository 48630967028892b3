use Rattle.std.proofs.Common.{◌≡◌, min, length, take, arith}
use Rattle.std.proofs.lemmas.List.{length-take-le}
use Rattle.board.proofs.Stepping.{list_step}
use Rattle.board.proofs.boards.Board.list_within.Goals as goal

pub returns : goal.returns
returns g c s =
    let row = c.args.row.now in
    let long : length row ≡ 384 = omega arith in
    let places : length (take c.min.result row) ≡ min c.args.places 384 =
    omega (arith, length-take-le c.min.result row (omega arith), c.min.ensures)
    in
    list_step _ c.args.places c.list.result _ c.list.new.row _ s.lawful places (c.list.ensures.answer s) (c.list.ensures.written s)
