-- What is wrong with a line, from what its reader found.
use Rattle.std.proofs.Common.{◌≡◌, ℕ, length, true, false, None, Some, Option, MatchOption, MatchResult, sym, ap, ◌∙◌, subst}
use Rattle.std.specs.Option.{ok_or}
use Rattle.proposals.specs.declared.refusals.Reason.TheVariants.{BadField, NoLineFeed, NotFourFields, UnknownAct}
use Rattle.update_text.specs.Fields.{bytes_of, place_of}
use Rattle.update_text.specs.Lines.{Counted, FieldAt, field_start, fields_of}
use Rattle.update_text.specs.Orders.{FirstOff, Flawed, Whole, act_word, text_flaw}
use Rattle.update_text.specs.Orders.Flawed.{unfed, uneven, unknown, misformed}
use Rattle.update_text.specs.declared.columns.Columns.{Columns}
use Rattle.update_text.specs.declared.fields.Field.{Field}
use Rattle.update_text.specs.declared.lines.Row.{Row}
use Rattle.update_text.specs.declared.orders.Act.{Act}
use Rattle.update_text.specs.declared.orders.Flaw.{Flaw}
use Rattle.update_text.specs.declared.parts.Part.{Part}
use Rattle.update_text.proofs.Reading.{reads_bytes}

pub not_fed : (columns : Columns) (line : Part) (e : Flaw) → line.marked ≡ false → e ≡ text_flaw line.at NoLineFeed → Flawed columns line e
not_fed columns line e unmarked is = subst (Flawed columns line) (sym is) (unfed unmarked)

pub of_four : (line : Part) (e : Flaw) (o : Option Row) → line.marked ≡ true → e ≡ text_flaw line.at NotFourFields →
    MatchOption o (length (fields_of line) ≡ 4 → ⊥) (λ row. row.line ≡ line) →
    MatchResult (ok_or o e) (λ row. Whole line × (row.line ≡ line)) (λ d. (columns : Columns) → Flawed columns line d)
of_four line e None fed is h = λ columns. subst (Flawed columns line) (sym is) (uneven fed h)
of_four line e (Some row) fed is h = (record { fed = fed; four = ap (λ l. length (fields_of l)) (sym h) ∙ row.each.0 }, h)

module _ (columns : Columns) (line : Part) (f : Field) (e : Flaw) (whole : Whole line) (field : FieldAt line columns.act f) (counted : Counted line) where
  pub unknown_act : (e ≡ text_flaw (place_of f) UnknownAct) × ((act : Act) → bytes_of f ≡ act_word act → ⊥) → Flawed columns line e
  unknown_act h =
      let is : e ≡ text_flaw (field_start line columns.act) UnknownAct = h.0 ∙ ap (λ at. text_flaw at UnknownAct) (field.start counted) in
      subst (Flawed columns line) (sym is) (unknown whole (λ act named. h.1 act (reads_bytes f _ _ field.reads ∙ named)))

  pub bad_field : (act : Act) → bytes_of f ≡ act_word act → ((k : ℕ) × FirstOff columns act line k × (e ≡ text_flaw (field_start line k) BadField)) → Flawed columns line e
  bad_field act named h = subst (Flawed columns line) (sym h.2) (misformed whole act (sym (reads_bytes f _ _ field.reads) ∙ named) h.0 h.1)
