-- What the functions for C write and answer.
use Rattle.std.specs.Prelude.{◌≡◌, ℕ, cond, ◌⊎◌, List, ◌++◌, length, drop, nat_le}
use Rattle.listing.specs.Report.{Reports}

-- the bytes from the row's start, and after them the row as it was; all as it was if they do not fit
abbrev pub placed : List ℕ → List ℕ → List ℕ
placed bytes out = cond (nat_le (length bytes) (length out)) (bytes ++ drop (length bytes) out) out

-- the report of a text was placed in a row, and the answer is its length
pub record Placed (text out : List ℕ) (r : ℕ) (out' : List ℕ) : Type 0 where
  pub printed : List ℕ
  pub reports : Reports 256 4096 text printed
  pub count : r ≡ length printed
  pub row : out' ≡ placed printed out

-- or memory was wanting
abbrev pub Reported : List ℕ → List ℕ → ℕ → List ℕ → Type 0
Reported text out r out' = Placed text out r out' ⊎ ((r ≡ 0) × (out' ≡ out))
