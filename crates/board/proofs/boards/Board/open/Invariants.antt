use Rattle.std.proofs.Common.{◌≡◌, ℕ, ◌<◌, ◌≤◌}
use Rattle.choices.specs.Mates.{entry}
use Rattle.settling.specs.Kept.{Sound}
use Rattle.board.specs.Calls.{mate_or}
use Rattle.board.proofs.boards.Board.open.Given as goal

abbrev pub invariant-loop-level : goal.invariant-loop-level
invariant-loop-level g l =
    g.R.Reader.sound l.keeper →
    Sound l.kept ×
    ((j v : ℕ) → l.level ≤ j → j < 20 → v < 256 → entry l.kept.choice j v ≡ mate_or (g.R.Reader.meaning l.keeper) j v)
