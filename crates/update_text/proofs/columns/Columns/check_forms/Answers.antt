use Rattle.std.proofs.Common.{ap, ◌∙◌, below_more}
use Rattle.std.proofs.lemmas.Bool.{both_ways}
use Rattle.proposals.specs.declared.refusals.Reason.TheVariants.{BadField}
use Rattle.update_text.specs.Orders.{text_flaw}
use Rattle.update_text.proofs.Reading.{field_here}
use Rattle.update_text.proofs.columns.Columns.check_forms.Goals as goal

pub returns-then-not-in_form : goal.returns-then-not-in_form
returns-then-not-in_form c = λ counted placing.
    let field = field_here c.args.row.now.line c.args.row.now.fields c.loop-place.place _ c.args.row.now.each c.loop-place-test.true in (
      c.loop-place.place,
      record {
        low = c.loop-place-test.true;
        before = c.loop-place.invariant placing;
        off = λ h. both_ways _ c.if-not-in_form.true ((c.in_form.ensures placing _ field.reads).1 h);
      },
      c.new.ensures ∙ ap (λ at. text_flaw at BadField) (c.at.ensures ∙ field.start counted),
    )

pub loop-place-preserved : goal.loop-place-preserved
loop-place-preserved c = λ placing.
    below_more _ _ (c.loop-place.invariant placing)
    ((c.in_form.ensures placing _ (field_here c.args.row.now.line c.args.row.now.fields c.loop-place.place _ c.args.row.now.each c.loop-place-test.true).reads).0 c.if-not-in_form.false)
