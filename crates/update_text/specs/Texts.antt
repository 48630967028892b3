-- A text and its lines.
use Rattle.std.specs.Prelude.{◌≡◌, ℕ, ◌+◌, ◌<◌, List, [], length, get_or, take, nat_lt, slice_index_or}
use Rattle.update_text.specs.Cuts.{cut, width}
use Rattle.update_text.specs.Names.{NamesLine}
use Rattle.update_text.specs.Orders.{Asks, Whole}
use Rattle.update_text.specs.declared.columns.Columns.{Columns}
use Rattle.update_text.specs.declared.orders.Order.{Order}
use Rattle.update_text.specs.declared.parts.Part.{Part}

-- line feeds, byte 10, separate the lines; what follows the last one is empty in a text that ends with one
abbrev pub lines_of : List ℕ → List (List ℕ)
lines_of text = cut 10 text

-- p is the line at a place of the text, counted from 0
pub record LineAt (text : List ℕ) (place : ℕ) (p : Part) : Type 0 where
  pub there : place < length (lines_of text)
  pub bytes : get_or (lines_of text) place [] ≡ p.bytes.now
  pub start : p.at ≡ width (take place (lines_of text))
  pub fed : p.marked ≡ nat_lt (place + 1) (length (lines_of text))

-- the first line names the columns
abbrev pub Headed : Columns → List ℕ → Type 0
Headed columns text = (p : Part) × LineAt text 0 p × NamesLine columns p

-- the line asks for something
abbrev pub Orderly : Columns → Part → Type 0
Orderly columns p = (o : Order) × Whole p × Asks columns p o

-- the part at a place is the empty end of the text, after its last line feed, and no line
abbrev pub AtEnd : List ℕ → ℕ → Type 0
AtEnd text place = (length (lines_of text) ≡ place + 1) × (slice_index_or (lines_of text) place [] ≡ [])
