use Rattle.std.proofs.Common.{◌≡◌, ℕ, ◌<◌}
use Rattle.update_text.specs.Lines.{field_of}
use Rattle.update_text.proofs.columns.place_of.Given as goal

abbrev pub invariant-loop-place : goal.invariant-loop-place
invariant-loop-place l = (k : ℕ) → k < l.place → field_of l.row.line k ≡ l.name → ⊥
