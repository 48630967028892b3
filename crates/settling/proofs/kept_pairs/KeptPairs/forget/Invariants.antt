use Rattle.std.proofs.Common.{◌<◌}
use Rattle.settling.specs.Following.{Involution, Forgotten, row}
use Rattle.settling.specs.declared.kept_pairs.KeptPairs.{KeptPairs}
use Rattle.settling.proofs.kept_pairs.KeptPairs.forget.Given as goal

abbrev pub invariant-loop-meter : goal.invariant-loop-meter
invariant-loop-meter l =
    (k : KeptPairs) → l.level < 20 → Involution (row l.old) → Forgotten k l.level (row l.old) (row l.new) 0 l.initial.self →
    Forgotten k l.level (row l.old) (row l.new) l.meter l.self
