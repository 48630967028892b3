-- A line: its fields, and the bytes of the text where they begin.
use Rattle.std.specs.Prelude.{◌≡◌, ℕ, ◌+◌, ◌^◌, ◌<◌, List, [], ◌∷◌, length, take, Some, None, Option, slice_index_or}
use Rattle.std.proofs.Props.{props}
use Rattle.std.specs.Coded.{×_prop}
use Rattle.update_text.specs.Cuts.{cut, width}
use Rattle.update_text.specs.Fields.{Reads, place_of}
use Rattle.update_text.specs.Steps.{NextPart, TookPart}
use Rattle.update_text.specs.declared.fields.Field.{Field}
use Rattle.update_text.specs.declared.fields.Field.TheVariants.{Word, Number, Hyphen}
use Rattle.update_text.specs.declared.lines.LineReader.{LineReader}
use Rattle.update_text.specs.declared.parts.Part.{Part}

-- semicolons, byte 59, separate the fields
abbrev pub fields_of : Part → List (List ℕ)
fields_of line = cut 59 line.bytes.now

abbrev pub field_of : Part → ℕ → List ℕ
field_of line place = slice_index_or (fields_of line) place []

-- the byte of the text where the field at a place begins
abbrev pub field_start : Part → ℕ → ℕ
field_start line place = line.at + width (take place (fields_of line))

-- the line ends at a byte that can be counted
abbrev pub Counted : Part → Type 0
Counted line = line.at + length line.bytes.now < 2 ^ 64

-- f is the field at a place of the line
pub record FieldAt (line : Part) (place : ℕ) (f : Field) : Type 0 where
  pub there : place < length (fields_of line)
  pub reads : Reads f (field_of line place) (place_of f)
  pub start : Counted line → place_of f ≡ field_start line place

-- these are the fields of the line from a place on
abbrev pub FieldsFrom : Part → ℕ → List Field → Type 0
FieldsFrom line place [] = length (fields_of line) ≡ place
FieldsFrom line place (f ∷ fs) = FieldAt line place f × FieldsFrom line (place + 1) fs

-- there is one proof of it at most
reads-prop : (f : Field) (bytes : List ℕ) (at : ℕ) → IsProp (Reads f bytes at)
reads-prop (Word w o) bytes at = Prim.hlevel props
reads-prop (Number n w o) bytes at = Prim.hlevel props
reads-prop (Hyphen w o) bytes at = Prim.hlevel props

field_at-prop : (line : Part) (place : ℕ) (f : Field) → IsProp (FieldAt line place f)
field_at-prop line place f = Prim.hlevel (props, reads-prop f (field_of line place) (place_of f))

FieldsFrom-prop : (line : Part) (place : ℕ) (fs : List Field) → IsProp (FieldsFrom line place fs)
FieldsFrom-prop line place [] = Prim.hlevel props
FieldsFrom-prop line place (f ∷ fs) = ×_prop (field_at-prop line place f) (FieldsFrom-prop line (place + 1) fs)

-- these are the four fields of the line
abbrev pub IsRow : Part → List Field → Type 0
IsRow line fields = (length (fields_of line) ≡ 4) × FieldsFrom line 0 fields

pub IsRow-prop : (line : Part) (fields : List Field) → IsProp (IsRow line fields)
IsRow-prop line fields = ×_prop (Prim.hlevel props) (FieldsFrom-prop line 0 fields)

-- the field f was read, and t is what s became
pub record TookField (s : LineReader) (f : Field) (t : LineReader) : Type 0 where
  pub part : Part
  pub took : TookPart s.fields part t.fields
  pub reads : Reads f part.bytes.now part.at

abbrev pub NextField : LineReader → Option Field → LineReader → Type 0
NextField s None t = NextPart s.fields None t.fields
NextField s (Some f) t = TookField s f t
