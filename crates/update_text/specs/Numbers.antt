-- What a number is in the text.
use Rattle.std.specs.Prelude.{◌≡◌, ℕ, ◌+◌, ◌-◌, ◌*◌, ◌<◌, ◌≤◌, List, [], ◌∷◌, length, slice_index, slice_index_or}

abbrev pub Digit : ℕ → Type 0
Digit c = (48 ≤ c) × (c ≤ 57)

-- 1 to 7 digits, and a leading zero only where it is the only one
pub record IsNumber (bs : List ℕ) : Type 0 where
  pub some : 0 < length bs
  pub short : length bs ≤ 7
  pub digits : (i : ℕ) → i < length bs → Digit (slice_index bs i)
  pub plain : slice_index_or bs 0 0 ≡ 48 → length bs ≡ 1

-- the number that the digits write after n
abbrev pub read_on : ℕ → List ℕ → ℕ
read_on n [] = n
read_on n (c ∷ cs) = read_on (10 * n + (c - 48)) cs
