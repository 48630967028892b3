-- What a search in a table says of the table.
use Rattle.std.proofs.Common.{◌≡◌, ℕ, List, get_or, take, Some, None, Result, Ok, Err, MatchResult, MatchOption, ap, ◌∙◌, arith, length-take, get_or-take}
use Rattle.std.specs.Result.{result_ok}
use Rattle.std.proofs.lemmas.List.{get_or_default}
use Rattle.proposals.specs.declared.proposals.Proposal.{Proposal}
use Rattle.matching.specs.Lists.{first_of}
use Rattle.matching.specs.Canonical.{Ascending, joins}
use Rattle.keepers.specs.Tables.{filler, Stands, Gap}
use Rattle.keepers.proofs.Edits.{first_at, first_none, gap_for}

-- the place alone, where there is one
pub place : (ps : List Proposal) (a b : ℕ) (r : Result ℕ ℕ) → MatchResult r (Stands ps a b) (Gap ps a b) →
    MatchOption (result_ok r) (first_of (joins a b) ps ≡ None) (Stands ps a b)
place ps a b (Ok i) s = s
place ps a b (Err i) g = first_none ps a b (gap_for ps a b i g)

-- what stands among the first k of a table is what the code reads of the table there
pub taken_is : (xs : List Proposal) (k i a b : ℕ) (d : Proposal) → Ascending (take k xs) → Stands (take k xs) a b i → first_of (joins a b) (take k xs) ≡ Some (get_or xs i d)
taken_is xs k i a b d up s =
    let w = simp length-take at s.within in
    first_at (take k xs) a b i up s ∙ ap (λ q. Some q) (get_or-take k xs i filler (omega arith) ∙ get_or_default xs i filler d (omega arith))
