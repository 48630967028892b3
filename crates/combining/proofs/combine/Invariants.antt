use Rattle.combining.specs.Steps.{DownTo}
use Rattle.combining.proofs.combine.Given as goal

abbrev pub invariant-loop-level : goal.invariant-loop-level
invariant-loop-level g l = g.R.Reader.sound l.reader → DownTo (g.R.Reader.meaning l.reader) l.level l.partners
