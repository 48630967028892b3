-- The names line, and the columns that it places.
use Rattle.std.specs.Prelude.{◌≡◌, ℕ, ◌<◌, true, List, [], length, codes, slice_index_or}
use Rattle.update_text.specs.Lines.{fields_of}
use Rattle.update_text.specs.declared.columns.Columns.{Columns}
use Rattle.update_text.specs.declared.parts.Part.{Part}

-- there are four fields, and each name stands at its place
pub record Named (columns : Columns) (fields : List (List ℕ)) : Type 0 where
  pub four : length fields ≡ 4
  pub act : slice_index_or fields columns.act [] ≡ codes "act"
  pub a : slice_index_or fields columns.a [] ≡ codes "a"
  pub b : slice_index_or fields columns.b [] ≡ codes "b"
  pub saving : slice_index_or fields columns.saving [] ≡ codes "saving"

-- the line names the columns, and a line feed ends it
pub record NamesLine (columns : Columns) (line : Part) : Type 0 where
  pub fed : line.marked ≡ true
  pub named : Named columns (fields_of line)

-- the columns stand at the four places, each at one of its own
pub record Placing (columns : Columns) : Type 0 where
  pub act : columns.act < 4
  pub a : columns.a < 4
  pub b : columns.b < 4
  pub saving : columns.saving < 4
  pub act_a : columns.act ≡ columns.a → ⊥
  pub act_b : columns.act ≡ columns.b → ⊥
  pub act_saving : columns.act ≡ columns.saving → ⊥
  pub a_b : columns.a ≡ columns.b → ⊥
  pub a_saving : columns.a ≡ columns.saving → ⊥
  pub b_saving : columns.b ≡ columns.saving → ⊥

-- a names line places the columns, and in one way only
abbrev pub OnePlacing : Type 0
OnePlacing =
    (line : Part) (p : Columns) → NamesLine p line → Placing p × ((q : Columns) → NamesLine q line → q ≡ p)
