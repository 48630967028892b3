use Rattle.std.proofs.Common.{◌≡◌, ◌+◌, length}
use Rattle.combining.specs.Steps.{Reached, DownTo}
use Rattle.combining.proofs.keep_level.Given as goal

abbrev pub invariant-loop-meter : goal.invariant-loop-meter
invariant-loop-meter g l =
    let m = g.R.Reader.meaning l.reader in
    g.R.Reader.sound l.reader → length l.partners ≡ m.size → DownTo m (l.level + 1) l.initial.partners → Reached m l.level l.meter l.partners
