-- Writing lines and whole texts out, and reading them back.
use Rattle.std.specs.Prelude.{◌≡◌, ℕ, ◌+◌, ◌^◌, ◌<◌, true, cond, List, [], ◌∷◌, ◌++◌, map, length, codes, decimal, Result, MatchResult, ◌==◌, slice_index_or}
use Rattle.std.specs.List.{AllByRecursion}
use Rattle.update_text.specs.Cuts.{joined}
use Rattle.update_text.specs.Fields.{hyphen}
use Rattle.update_text.specs.Names.{NamesLine, Placing}
use Rattle.update_text.specs.Orders.{Answered, act_word}
use Rattle.update_text.specs.Texts.{AtEnd, Headed, LineAt, Orderly}
use Rattle.update_text.specs.declared.columns.Columns.{Columns}
use Rattle.update_text.specs.declared.orders.Act.{Act}
use Rattle.update_text.specs.declared.orders.Act.TheVariants.{Add, Off}
use Rattle.update_text.specs.declared.orders.Flaw.{Flaw}
use Rattle.update_text.specs.declared.orders.Order.{Order}
use Rattle.update_text.specs.declared.orders.Order.TheVariants as order
use Rattle.update_text.specs.declared.parts.Part.{Part}

-- what a site asks for, before it is written
pub data Wish : Type 0 where
  opens : ℕ → ℕ → ℕ → Wish  -- the two meters and the saving
  closes : ℕ → ℕ → Wish

-- what an order asks for, wherever it was read
abbrev pub wish_of : Order → Wish
wish_of (order.Add a b saving) = opens a.value b.value saving.value
wish_of (order.Off a b) = closes a.value b.value

-- each number has at most 7 digits
abbrev pub Writable : Wish → Type 0
Writable (opens a b saving) = (a < 10 ^ 7) × (b < 10 ^ 7) × (saving < 10 ^ 7)
Writable (closes a b) = (a < 10 ^ 7) × (b < 10 ^ 7)

-- what stands in each column
abbrev pub act_of : Wish → Act
act_of (opens a b saving) = Add
act_of (closes a b) = Off

abbrev pub first_of : Wish → ℕ
first_of (opens a b saving) = a
first_of (closes a b) = a

abbrev pub second_of : Wish → ℕ
second_of (opens a b saving) = b
second_of (closes a b) = b

abbrev pub saving_of : Wish → List ℕ
saving_of (opens a b saving) = decimal saving
saving_of (closes a b) = hyphen

-- four fields, each in its column
abbrev pub in_column : Columns → (act a b saving : List ℕ) → ℕ → List ℕ
in_column columns act a b saving place =
    cond (place == columns.act) act (cond (place == columns.a) a (cond (place == columns.b) b saving))

abbrev pub row : Columns → (act a b saving : List ℕ) → List (List ℕ)
row columns act a b saving =
    let at : ℕ → List ℕ = in_column columns act a b saving in at 0 ∷ at 1 ∷ at 2 ∷ at 3 ∷ []

abbrev pub wish_row : Columns → Wish → List (List ℕ)
wish_row columns wish = row columns (act_word (act_of wish)) (decimal (first_of wish)) (decimal (second_of wish)) (saving_of wish)

abbrev pub names_row : Columns → List (List ℕ)
names_row columns = row columns (codes "act") (codes "a") (codes "b") (codes "saving")

-- the line has these fields, and a line feed after it
pub record Writes (fields : List (List ℕ)) (line : Part) : Type 0 where
  pub bytes : line.bytes.now ≡ joined 59 fields
  pub fed : line.marked ≡ true

-- by any placing of the columns, the names that are written name these columns, and a wish that is written reads back as that wish
abbrev pub ReadsBack : Type 0
ReadsBack =
    (columns : Columns) (line : Part) → Placing columns →
    (Writes (names_row columns) line → NamesLine columns line) × ((wish : Wish) → Writable wish → Writes (wish_row columns wish) line → (r : Result Order Flaw) → Answered columns line r → MatchResult r (λ o. wish_of o ≡ wish) (λ _. ⊥))

-- the lines of a list of wishes that is written out: the names line, and a line for each wish
abbrev pub lines_out : Columns → List Wish → List (List ℕ)
lines_out columns wishes = joined 59 (names_row columns) ∷ map (λ wish. joined 59 (wish_row columns wish)) wishes

-- the text: each line ended by a line feed
abbrev pub written : Columns → List Wish → List ℕ
written columns wishes = joined 10 (lines_out columns wishes ++ [] ∷ [])

-- what is read of a text that was written: its names line names the columns, each later line asks for the wish at its place, and no line is left over
pub record ReadsAs (text : List ℕ) (columns : Columns) (wishes : List Wish) : Type 0 where
  pub names : (line : Part) → LineAt text 0 line → NamesLine columns line
  pub wish : (place : ℕ) (line : Part) (r : Result Order Flaw) → place < length wishes → LineAt text (place + 1) line → Answered columns line r →
      MatchResult r (λ o. wish_of o ≡ slice_index_or wishes place (closes 0 0)) (λ _. ⊥)
  pub end : AtEnd text (length wishes + 1)

-- a text whose first line names the columns, whose n later lines each ask for something, and which ends there
pub record TextInForm (text : List ℕ) (columns : Columns) (n : ℕ) : Type 0 where
  pub headed : Headed columns text
  pub lines : (place : ℕ) → place < n → (line : Part) × LineAt text (place + 1) line × Orderly columns line
  pub end : AtEnd text (n + 1)

-- what a text in form was written from
pub record WrittenFrom (text : List ℕ) (columns : Columns) (n : ℕ) : Type 0 where
  pub wishes : List Wish
  pub count : length wishes ≡ n
  pub writable : AllByRecursion Writable wishes
  pub placing : Placing columns
  pub is : text ≡ written columns wishes

-- a list of wishes that is written out by any placing of the columns reads back as that list, and a text in form is one that was written so
abbrev pub WrittenAndRead : Type 0
WrittenAndRead =
    ((columns : Columns) (wishes : List Wish) → Placing columns → AllByRecursion Writable wishes → ReadsAs (written columns wishes) columns wishes)
    × ((text : List ℕ) (columns : Columns) (n : ℕ) → TextInForm text columns n → WrittenFrom text columns n)
