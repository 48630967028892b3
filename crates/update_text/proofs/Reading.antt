-- The fields of a line, read one after another.
use Rattle.std.proofs.Common.{◌≡◌, ℕ, zero, suc, ◌+◌, ◌<◌, ◌≤◌, false, List, [], ◌∷◌, length, get_or, None, Some, Option, sym, refl, ap, ◌∙◌, subst, zero-le, arith, MatchOption}
use Rattle.std.specs.List.{slice_get}
use Rattle.update_text.specs.Fields.{Reads, bytes_of, place_of}
use Rattle.update_text.specs.Lines.{FieldAt, FieldsFrom, IsRow, TookField, field_of, fields_of}
use Rattle.update_text.specs.Numbers.{IsNumber, read_on}
use Rattle.update_text.specs.Steps.{Started, unread}
use Rattle.update_text.specs.declared.fields.Field.{Field}
use Rattle.update_text.specs.declared.fields.Field.TheVariants.{Word, Number, Hyphen}
use Rattle.update_text.specs.declared.lines.LineReader.{LineReader}
use Rattle.update_text.specs.declared.parts.Part.{Part}
use Rattle.update_text.proofs.Walking.{Before, after, before_first, here, none_left, start}

-- s stands before the field at a place of the line
abbrev pub BeforeField : Part → ℕ → LineReader → Type 0
BeforeField line place s = Before 59 line.bytes.now line.at place s.fields

reads_at : (f : Field) (bytes other : List ℕ) (at : ℕ) → Reads f bytes at → other ≡ bytes → Reads f other (place_of f) × (place_of f ≡ at)
reads_at (Word w o) bytes other at h e = ((h.0 ∙ sym e, refl, subst (λ x. IsNumber x → ⊥) (sym e) h.2, λ z. h.3 (sym e ∙ z)), h.1)
reads_at (Number n w o) bytes other at h e = ((h.0 ∙ sym e, refl, subst IsNumber (sym e) h.2, h.3 ∙ ap (read_on 0) (sym e)), h.1)
reads_at (Hyphen w o) bytes other at h e = ((h.0 ∙ sym e, refl, e ∙ h.2), h.1)

-- the field at a place of the line was read, and the reader stands before the next one
pub record ReadAt (line : Part) (place : ℕ) (f : Field) (t : LineReader) : Type 0 where
  pub field : FieldAt line place f
  pub before : BeforeField line (place + 1) t

one_read : (line : Part) (place : ℕ) (s : LineReader) (f : Field) (t : LineReader) → BeforeField line place s → TookField s f t → ReadAt line place f t
one_read line place s f t b h =
    let is = here 59 line.bytes.now line.at place s.fields h.part t.fields b h.took in
    let reads = reads_at f h.part.bytes.now (field_of line place) h.part.at h.reads is.1 in
    record {
      field = record { there = is.0; reads = reads.0; start = λ counted. reads.1 ∙ start 59 line.bytes.now line.at place s.fields h.part t.fields b h.took counted };
      before = after 59 line.bytes.now line.at place s.fields h.part t.fields b h.took;
    }

pub first_read : (line : Part) {s t : LineReader} {f : Field} → Started s.fields line.bytes.now line.at 59 → TookField s f t → ReadAt line 0 f t
first_read line {s} {t} {f} b h = one_read line 0 s f t (before_first 59 line.bytes.now line.at s.fields b) h

pub next_read : {line : Part} {place : ℕ} {e f : Field} {s t : LineReader} → ReadAt line place e s → TookField s f t → ReadAt line (place + 1) f t
next_read {line} {place} {e} {f} {s} {t} r h = one_read line (place + 1) s f t r.before h

-- no field was left to read
pub last_read : {line : Part} {place : ℕ} {e : Field} {s : LineReader} → ReadAt line place e s → unread s.fields ≡ false → length (fields_of line) ≡ place + 1
last_read {line} {place} {e} {s} r done = omega (arith, r.field.there, none_left 59 line.bytes.now line.at (place + 1) s.fields r.before done)

-- each of the fields from a place on stands at its place of the line
field_from : (line : Part) (place : ℕ) (fs : List Field) → FieldsFrom line place fs → (k : ℕ) (f : Field) → slice_get fs k ≡ Some f → FieldAt line (place + k) f
field_from line place [] h k f is = absurd (cc)
field_from line place (g ∷ fs) h zero f is =
    let same : g ≡ f = cc in let at : place ≡ place + zero = omega arith in subst (λ (x : ℕ × Field). FieldAt line x.0 x.1) (λ i. (at i, same i)) h.0
field_from line place (g ∷ fs) h (suc k) f is =
    let at : place + 1 + k ≡ place + suc k = omega arith in subst (λ i. FieldAt line i f) at (field_from line (place + 1) fs h.1 k f is)

-- past the last of them there is none
get_none : (fs : List Field) (k : ℕ) → slice_get fs k ≡ None → length fs ≤ k
get_none [] k is = zero-le
get_none (g ∷ fs) zero is = absurd (cc)
get_none (g ∷ fs) (suc k) is = omega (arith, get_none fs k is)

get_some : (fs : List Field) (k : ℕ) (d : Field) → k < length fs → slice_get fs k ≡ Some (get_or fs k d)
get_some [] k d low = absurd (omega arith)
get_some (g ∷ fs) zero d low = refl
get_some (g ∷ fs) (suc k) d low = get_some fs k d (omega arith)

from_count : (line : Part) (place : ℕ) (fs : List Field) → FieldsFrom line place fs → length (fields_of line) ≡ place + length fs
from_count line place [] h = omega (arith, h)
from_count line place (f ∷ fs) h = omega (arith, from_count line (place + 1) fs h.1)

row_count : (line : Part) (fs : List Field) → IsRow line fs → length fs ≡ 4
row_count line fs row = omega (arith, row.0, from_count line 0 fs row.1)

-- the field that a row has at a place
pub field_or : (line : Part) (fs : List Field) (k : ℕ) (o : Option Field) → IsRow line fs → o ≡ slice_get fs k → MatchOption o (4 ≤ k) (FieldAt line k)
field_or line fs k None row is = omega (arith, row_count line fs row, get_none fs k (sym is))
field_or line fs k (Some f) row is =
    let at : 0 + k ≡ k = omega arith in subst (λ i. FieldAt line i f) at (field_from line 0 fs row.1 k f (sym is))

pub field_here : (line : Part) (fs : List Field) (k : ℕ) (d : Field) → IsRow line fs → k < 4 → FieldAt line k (get_or fs k d)
field_here line fs k d row low =
    let at : 0 + k ≡ k = omega arith in
    subst (λ i. FieldAt line i (get_or fs k d)) at (field_from line 0 fs row.1 k (get_or fs k d) (get_some fs k d (omega (arith, row_count line fs row))))

pub reads_bytes : (f : Field) (bytes : List ℕ) (at : ℕ) → Reads f bytes at → bytes_of f ≡ bytes
reads_bytes (Word w o) bytes at h = h.0
reads_bytes (Number n w o) bytes at h = h.0
reads_bytes (Hyphen w o) bytes at h = h.0

pub field_bytes : (line : Part) (fs : List Field) (k : ℕ) (d : Field) → IsRow line fs → k < 4 → bytes_of (get_or fs k d) ≡ field_of line k
field_bytes line fs k d row low = reads_bytes _ _ _ (field_here line fs k d row low).reads
