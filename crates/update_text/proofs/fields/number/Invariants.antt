use Rattle.std.proofs.Common.{◌≡◌, ℕ, ◌<◌, get_or, take}
use Rattle.update_text.specs.Numbers.{Digit, read_on}
use Rattle.update_text.proofs.fields.number.Given as goal

abbrev pub invariant-loop-b : goal.invariant-loop-b
invariant-loop-b l = ((k : ℕ) → k < l.b-index → Digit (get_or l.bytes k 0)) × (l.n ≡ read_on 0 (take l.b-index l.bytes))
