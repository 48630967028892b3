use Rattle.std.proofs.Common.{◌≡◌, ℕ, ◌<◌, length, get_or}
use Rattle.board.specs.Calls.{mate_or}
use Rattle.board.proofs.boards.mates_of.Given as goal

abbrev pub invariant-loop-meter : goal.invariant-loop-meter
invariant-loop-meter g l =
    (length l.row ≡ 256) ×
    (g.R.Reader.sound l.reader → (v : ℕ) → v < l.meter → get_or l.row v 0 ≡ mate_or (g.R.Reader.meaning l.reader) l.level v)
