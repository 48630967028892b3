use Rattle.std.proofs.Common.{◌≡◌}
use Rattle.matching.specs.Matching.{total}
use Rattle.matching.specs.Meanings.{kept_of}
use Rattle.board.specs.Reading.{lower_than}
use Rattle.board.specs.Serving.{Serves}
use Rattle.board.proofs.boards.Board.saved.Given as goal

abbrev pub invariant-loop-meter : goal.invariant-loop-meter
invariant-loop-meter g l =
    let m = g.R.Reader.meaning l.self.keeper in
    Serves (g.R.Reader.sound l.self.keeper) m l.self.kept → l.sum ≡ total (lower_than l.meter (kept_of m))
