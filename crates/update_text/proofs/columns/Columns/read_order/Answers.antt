use Rattle.std.proofs.Common.{sym, subst}
use Rattle.std.proofs.lemmas.Result.{err_from_is_err_and}
use Rattle.update_text.specs.Lines.{Counted}
use Rattle.update_text.specs.Orders.{Flawed, Whole}
use Rattle.update_text.specs.declared.parts.Part.{Part}
use Rattle.update_text.proofs.Flaws.{bad_field}
use Rattle.update_text.proofs.columns.Columns.read_order.Goals as goal

pub returns-in_err-check_forms : goal.returns-in_err-check_forms
returns-in_err-check_forms c =
    let p = err_from_is_err_and c.from_residual-in_err-check_forms.result c.from_residual-in_err-check_forms.ensures.1 in
    let row = c.in_ok-row.ensures in
    rw (p.1, p.2) (λ counted placing.
    let ends = subst Counted (sym row.1) counted in
    subst (λ (line : Part). Flawed c.args.self line c.in_err-check_forms.field-0.0) row.1
    (bad_field c.args.self c.in_ok-row.row.line c.in_ok-field_at.field-0 _ (subst Whole (sym row.1) row.0)
    c.in_ok-field_at.ensures ends c.in_ok-act.act c.in_ok-act.ensures (c.in_err-check_forms.ensures ends placing)))
