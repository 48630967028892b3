use Rattle.std.proofs.Common.{arith}
use Rattle.std.proofs.lemmas.List.Edits.{fill_by_more}
use Rattle.combining.proofs.free.Goals as goal

pub loop-meter-preserved : goal.loop-meter-preserved
loop-meter-preserved c = let l = c.loop-meter in fill_by_more (λ v. v) l.partners l.meter 0 (omega arith) l.invariant
