use Rattle.std.proofs.Common.{ℕ, ◌<◌}
use Rattle.update_text.specs.Lines.{field_of}
use Rattle.update_text.specs.Names.{Placing}
use Rattle.update_text.specs.Orders.{InForm}
use Rattle.update_text.proofs.columns.Columns.check_forms.Given as goal

abbrev pub invariant-loop-place : goal.invariant-loop-place
invariant-loop-place l = Placing l.self → (k : ℕ) → k < l.place → InForm l.self l.act k (field_of l.row.line k)
