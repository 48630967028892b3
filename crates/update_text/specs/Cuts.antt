-- A list of bytes that is taken apart at a mark.
use Rattle.std.specs.Prelude.{◌≡◌, ℕ, ◌+◌, ◌<◌, cond, List, [], ◌∷◌, ◌++◌, length, ◌==◌, ◌≢◌, slice_index}
use Rattle.std.specs.List.{AllByRecursion}

-- no byte is the mark
abbrev pub Free : ℕ → List ℕ → Type 0
Free mark bytes = (i : ℕ) → i < length bytes → slice_index bytes i ≢ mark

-- `front` stands before the first mark, and `rest` begins with it, or is empty where there is none
pub record Splits (mark : ℕ) (all front rest : List ℕ) : Type 0 where
  pub whole : front ++ rest ≡ all
  pub free : Free mark front
  pub stops : 0 < length rest → slice_index rest 0 ≡ mark

-- one more byte at the head of the first part
abbrev pub widened : ℕ → List (List ℕ) → List (List ℕ)
widened c [] = (c ∷ []) ∷ []
widened c (p ∷ ps) = (c ∷ p) ∷ ps

-- the parts between the marks: one more than there are marks, and some may be empty
unfoldable pub cut : ℕ → List ℕ → List (List ℕ)
cut mark [] = [] ∷ []
cut mark (c ∷ cs) = cond (c == mark) ([] ∷ cut mark cs) (widened c (cut mark cs))

-- parts with a mark between each two
abbrev pub joined : ℕ → List (List ℕ) → List ℕ
joined mark [] = []
joined mark (p ∷ []) = p
joined mark (p ∷ q ∷ ps) = p ++ (mark ∷ joined mark (q ∷ ps))

-- how many bytes these parts take up, each with a mark after it
abbrev pub width : List (List ℕ) → ℕ
width [] = 0
width (p ∷ ps) = length p + 1 + width ps

-- parts that are cut are free of the mark and join to what was cut, and parts that are free of it are cut as they were joined
abbrev pub CutsAndJoins : Type 0
CutsAndJoins =
    (mark : ℕ) → ((bytes : List ℕ) → (joined mark (cut mark bytes) ≡ bytes) × AllByRecursion (Free mark) (cut mark bytes)) × ((ps : List (List ℕ)) → 0 < length ps → AllByRecursion (Free mark) ps → cut mark (joined mark ps) ≡ ps)
