-- The lines of a text, followed one after another.
use Rattle.std.proofs.Common.{◌≡◌, ℕ, ◌+◌, ◌≤◌, Bool, true, false, not, eqb, List, [], ◌∷◌, length, sym, refl, ap, ◌∙◌, subst, arith}
use Rattle.std.proofs.lemmas.Bool.{and_from, and_parts, both_ways, eq-eqb, eqb-true, le-ltb, ltb-false, ltb-true, not-true}
use Rattle.update_text.specs.Cuts.{cut}
use Rattle.update_text.specs.Lines.{Counted}
use Rattle.update_text.specs.Names.{Named, NamesLine}
use Rattle.update_text.specs.Steps.{Started, TookPart, is_end, rest_of}
use Rattle.update_text.specs.Texts.{AtEnd, Headed, LineAt, lines_of}
use Rattle.update_text.specs.declared.columns.Columns.{Columns}
use Rattle.update_text.specs.declared.parts.Part.{Part}
use Rattle.update_text.specs.declared.parts.Parts.{Parts}
use Rattle.update_text.proofs.Cutting.{shorter}
use Rattle.update_text.proofs.Walking.{Before, before_first, here, marked_is, start}

-- s stands before the line at a place of the text
abbrev pub BeforeLine : List ℕ → ℕ → Parts → Type 0
BeforeLine text place s = Before 10 text 0 place s

module _ (text : List ℕ) (few : length text ≤ 32768) (place : ℕ) (s : Parts) (p : Part) (t : Parts) (b : BeforeLine text place s) (h : TookPart s p t) where
  pub line_at : LineAt text place p
  line_at =
      let is = here 10 text 0 place s p t b h in
      record {
        there = is.0;
        bytes = is.1;
        start = omega (arith, start 10 text 0 place s p t b h (omega arith));
        fed = marked_is 10 text 0 place s p t b h;
      }

  pub line_counted : Counted p
  line_counted = omega (arith, h.start, b.end (omega arith), b.passed h.was, shorter s.mark (rest_of s) p.bytes.now h.after h.cut)

-- the first line that is read is the one that names the columns
module _ (text : List ℕ) (few : length text ≤ 32768) (s : Parts) (p : Part) (t : Parts) (b : Started s text 0 10) (h : TookPart s p t) where
  pub first_line : LineAt text 0 p
  first_line = line_at text few 0 s p t (before_first 10 text 0 s b) h

  pub headed_by : (columns : Columns) → NamesLine columns p → Headed columns text
  headed_by columns names = (p, first_line, names)

-- two readings of a line are one line
pub same_names : (text : List ℕ) (columns : Columns) (p q : Part) → LineAt text 0 p → LineAt text 0 q → NamesLine columns p → NamesLine columns q
same_names text columns p q lp lq h = record {
  fed = lq.fed ∙ sym lp.fed ∙ h.fed;
  named = subst (λ bs. Named columns (cut 59 bs)) (sym lp.bytes ∙ lq.bytes) h.named;
}

nil : (xs : List ℕ) → length xs ≡ 0 → xs ≡ []
nil [] e = refl
nil (x ∷ xs) e = absurd (omega arith)

-- the empty end of a text is known by its part
pub at_end : (text : List ℕ) (place : ℕ) (p : Part) (r : Bool) → LineAt text place p → r ≡ is_end p → r ≡ true → AtEnd text place
at_end text place p r at is end =
    let parts = and_parts (not p.marked) (eqb (length p.bytes.now) 0) (sym is ∙ end) in
    let unfed = not-true p.marked parts.0 in
    (omega (arith, ltb-false (place + 1) (length (lines_of text)) (sym at.fed ∙ unfed), at.there), at.bytes ∙ nil p.bytes.now (eqb-true (length p.bytes.now) 0 parts.1))

pub not_at_end : (text : List ℕ) (place : ℕ) (p : Part) → LineAt text place p → false ≡ is_end p → AtEnd text place → ⊥
not_at_end text place p at is end =
    both_ways (is_end p) (sym is)
    (and_from (not p.marked) (eqb (length p.bytes.now) 0)
    (ap not (at.fed ∙ le-ltb (place + 1) (length (lines_of text)) (omega arith)))
    (eq-eqb (length p.bytes.now) 0 (ap length (sym at.bytes ∙ end.1))))

-- a line with a line feed is not the last
pub not_last : (text : List ℕ) (place : ℕ) (p : Part) → LineAt text place p → p.marked ≡ true → length (lines_of text) ≤ place + 1 → ⊥
not_last text place p at fed out = omega (arith, ltb-true (place + 1) (length (lines_of text)) (sym at.fed ∙ fed))
