use Rattle.std.proofs.Common.{◌≡◌, ◌≤◌, length}
use Rattle.matching.specs.Meanings.{kept_of}
use Rattle.board.specs.Reading.{lower_than}
use Rattle.board.specs.Serving.{Serves}
use Rattle.board.proofs.boards.Board.count.Given as goal

abbrev pub invariant-loop-meter : goal.invariant-loop-meter
invariant-loop-meter g l =
    let m = g.R.Reader.meaning l.self.keeper in
    (l.count ≤ l.meter) ×
    (Serves (g.R.Reader.sound l.self.keeper) m l.self.kept → l.count ≡ length (lower_than l.meter (kept_of m)))
