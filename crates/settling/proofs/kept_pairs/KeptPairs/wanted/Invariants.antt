use Rattle.std.proofs.Common.{◌+◌}
use Rattle.choices.specs.Mates.{entry}
use Rattle.settling.specs.Kept.{height_of}
use Rattle.settling.specs.Steps.{Passed}
use Rattle.settling.proofs.kept_pairs.KeptPairs.wanted.Given as goal

abbrev pub invariant-loop-level : goal.invariant-loop-level
invariant-loop-level l = Passed (entry l.self.choice) (height_of l.self) l.due.meter (l.level + 1) l.due.level
