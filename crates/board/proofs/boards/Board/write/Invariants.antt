use Rattle.std.proofs.Common.{◌≡◌, ◌*◌, ◌≤◌, length}
use Rattle.matching.specs.Meanings.{kept_of}
use Rattle.board.specs.Reading.{Written}
use Rattle.board.specs.Serving.{Serves}
use Rattle.board.proofs.boards.Board.write.Given as goal

abbrev pub invariant-loop-low : goal.invariant-loop-low
invariant-loop-low g l =
    let m = g.R.Reader.meaning l.self.keeper in
    (length l.row ≡ length l.initial.row) ×
    (l.at ≤ length l.row) ×
    (Serves (g.R.Reader.sound l.self.keeper) m l.self.kept → 3 * length (kept_of m) ≤ length l.initial.row →
    Written (kept_of m) l.low l.at l.initial.row l.row)
