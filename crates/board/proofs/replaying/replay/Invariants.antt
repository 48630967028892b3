use Rattle.std.proofs.Common.{◌≡◌, length, take, drop}
use Rattle.runs.specs.Runs.{Run}
use Rattle.board.specs.Replaying.{events_of}
use Rattle.board.specs.Serving.{Serves}
use Rattle.board.proofs.replaying.replay.Given as goal

abbrev pub invariant-loop-i : goal.invariant-loop-i
invariant-loop-i g l =
    (drop (length l.calls) l.answers ≡ drop (length l.calls) l.initial.answers) ×
    (Serves (g.K.Reader.sound l.initial.board.keeper) (g.K.Reader.meaning l.initial.board.keeper) l.initial.board.kept →
    Serves (g.K.Reader.sound l.board.keeper) (g.K.Reader.meaning l.board.keeper) l.board.kept ×
    Run (g.K.Reader.meaning l.initial.board.keeper) (events_of (take l.i l.calls) (take l.i l.answers)) (g.K.Reader.meaning l.board.keeper))
