-- The text that is printed for an update text.
use Rattle.std.specs.Prelude.{◌≡◌, ℕ, List, [], ◌∷◌, ◌++◌, Ok, Err, codes, decimal, Result}
use Rattle.std.specs.List.{flat_map}
use Rattle.proposals.specs.declared.proposals.Proposal.{Proposal}
use Rattle.matching.specs.Meanings.{Meaning, bare, kept_of}
use Rattle.feeding.specs.Texts.{Feeding, stop_line}
use Rattle.feeding.specs.declared.feeding.Stop.{Stop}

-- a pair's line: the lower meter, the higher one and what the two save, with a `;` between two of them, and a line feed
abbrev pub pair_line : ℕ → ℕ → ℕ → List ℕ
pair_line low high saving = decimal low ++ 59 ∷ (decimal high ++ 59 ∷ (decimal saving ++ 10 ∷ []))

abbrev pub line_of : Proposal → List ℕ
line_of p = pair_line p.low p.high p.saving

-- a line for each pair
abbrev pub pairs_text : List Proposal → List ℕ
pairs_text K = flat_map line_of K

-- the same of numbers, three for each pair
abbrev pub numbers_text : List ℕ → List ℕ
numbers_text [] = []
numbers_text (low ∷ []) = []
numbers_text (low ∷ high ∷ []) = []
numbers_text (low ∷ high ∷ saving ∷ rest) = pair_line low high saving ++ numbers_text rest

-- where the text was stopped at: the line, the byte and the refusal's number; nothing if all its lines were done
abbrev pub stop_text : Result ℕ Stop → List ℕ
stop_text (Ok n) = []
stop_text (Err s) = stop_line s ++ 10 ∷ []

-- the names of the columns
abbrev pub heading : List ℕ
heading = codes "a;b;saving" ++ 10 ∷ []

abbrev pub report_text : List Proposal → Result ℕ Stop → List ℕ
report_text K fed = heading ++ (pairs_text K ++ stop_text fed)

-- what is printed for a text: the text was fed to a board over a keeper of so many meters and proposals, with nothing open at first,
-- and what is printed are the pairs that static combining then keeps, and where the text was stopped at
pub record Reports (size capacity : ℕ) (text printed : List ℕ) : Type 0 where
  pub meaning : Meaning
  pub fed : Result ℕ Stop
  pub feeding : Feeding text (bare size capacity) fed meaning
  pub whole : printed ≡ report_text (kept_of meaning) fed
