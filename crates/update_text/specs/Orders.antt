-- What a line after the names line asks for, or what is wrong with it.
use Rattle.std.specs.Prelude.{◌≡◌, ℕ, ◌<◌, true, false, List, length, codes, Result, MatchResult, ◌≢◌}
use Rattle.proposals.specs.declared.refusals.Layer.TheVariants as layer
use Rattle.proposals.specs.declared.refusals.Reason.{Reason}
use Rattle.proposals.specs.declared.refusals.Reason.TheVariants.{NoLineFeed, NotFourFields, UnknownAct, BadField}
use Rattle.update_text.specs.Fields.{hyphen}
use Rattle.update_text.specs.Lines.{field_of, fields_of, field_start}
use Rattle.update_text.specs.Numbers.{IsNumber, read_on}
use Rattle.update_text.specs.declared.columns.Columns.{Columns}
use Rattle.update_text.specs.declared.orders.Act.{Act}
use Rattle.update_text.specs.declared.orders.Act.TheVariants.{Add, Off}
use Rattle.update_text.specs.declared.orders.Entry.{Entry}
use Rattle.update_text.specs.declared.orders.Flaw.{Flaw}
use Rattle.update_text.specs.declared.orders.Order.{Order}
use Rattle.update_text.specs.declared.orders.Order.TheVariants as order
use Rattle.update_text.specs.declared.parts.Part.{Part}

-- the word of each act
abbrev pub act_word : Act → List ℕ
act_word Add = codes "add"
act_word Off = codes "off"

-- the act of the line is this one
abbrev pub ActIs : Columns → Part → Act → Type 0
ActIs columns line act = field_of line columns.act ≡ act_word act

-- a proposal that is opened has a saving, and a pair that is closed has none
abbrev pub SavingForm : Act → List ℕ → Type 0
SavingForm Add field = IsNumber field
SavingForm Off field = field ≡ hyphen

-- a field at a place has the form that its column asks for in a line with this act
pub record InForm (columns : Columns) (act : Act) (place : ℕ) (field : List ℕ) : Type 0 where
  pub a : place ≡ columns.a → IsNumber field
  pub b : place ≡ columns.b → IsNumber field
  pub saving : place ≡ columns.saving → SavingForm act field

-- the field at this place is the first, from left to right, that is not in its form
pub record FirstOff (columns : Columns) (act : Act) (line : Part) (place : ℕ) : Type 0 where
  pub low : place < 4
  pub before : (k : ℕ) → k < place → InForm columns act k (field_of line k)
  pub off : InForm columns act place (field_of line place) → ⊥

-- the number that the field at a place writes, and the byte where it begins
pub record EntryAt (line : Part) (place : ℕ) (e : Entry) : Type 0 where
  pub number : IsNumber (field_of line place)
  pub value : e.value ≡ read_on 0 (field_of line place)
  pub start : e.at ≡ field_start line place

-- what the line asks for: its act, and the number in each column
abbrev pub Asks : Columns → Part → Order → Type 0
Asks columns line (order.Add a b saving) =
    ActIs columns line Add × EntryAt line columns.a a × EntryAt line columns.b b × EntryAt line columns.saving saving
Asks columns line (order.Off a b) =
    ActIs columns line Off × EntryAt line columns.a a × EntryAt line columns.b b × (field_of line columns.saving ≡ hyphen)

-- four fields, and a line feed at the end
pub record Whole (line : Part) : Type 0 where
  pub fed : line.marked ≡ true
  pub four : length (fields_of line) ≡ 4

-- found by this layer
abbrev pub text_flaw : ℕ → Reason → Flaw
text_flaw at reason = record { byte = at; refusal = record { reason = reason; layer = layer.Text } }

-- what is wrong with a line: the first that holds
pub data Flawed (columns : Columns) (line : Part) : Flaw → Type 0 where
  unfed : line.marked ≡ false → Flawed columns line (text_flaw line.at NoLineFeed)
  uneven : line.marked ≡ true → (length (fields_of line) ≢ 4) → Flawed columns line (text_flaw line.at NotFourFields)
  unknown : Whole line → ((act : Act) → ActIs columns line act → ⊥) → Flawed columns line (text_flaw (field_start line columns.act) UnknownAct)
  misformed : Whole line → (act : Act) → ActIs columns line act → (place : ℕ) → FirstOff columns act line place → Flawed columns line (text_flaw (field_start line place) BadField)

-- what reading the line answers
abbrev pub Answered : Columns → Part → Result Order Flaw → Type 0
Answered columns line r = MatchResult r (λ o. Whole line × Asks columns line o) (λ flaw. Flawed columns line flaw)

-- a line has one answer
abbrev pub OneAnswer : Type 0
OneAnswer = (columns : Columns) (line : Part) (r s : Result Order Flaw) → Answered columns line r → Answered columns line s → r ≡ s
