-- Where a search ends among proposals in order.
use Rattle.std.proofs.Common.{◌≡◌, ℕ, zero, suc, ◌<◌, ◌≤◌, true, List, [], ◌∷◌, length, get_or, Result, Ok, Err, MatchResult, sym, refl, ◌∙◌, inl, inr, ⊎_elim, arith}
use Rattle.std.specs.Ordering.{nat_cmp, ordering_then, ordering_index}
use Rattle.std.proofs.Common.{Ordering, Less, Equal, Greater}
use Rattle.std.specs.List.Sorted.{IsSearchInRange, IsBinarySearchResult, IsNonDecreasingBy}
use Rattle.std.proofs.lemmas.List.{get_or_default}
use Rattle.std.proofs.lemmas.List.Sorted.{IsNonDecreasingBy-from_default}
use Rattle.std.proofs.lemmas.Bool.{cases_lt}
use Rattle.std.proofs.lemmas.Bool.Decides.{nat_tests}
use Rattle.proposals.specs.declared.proposals.Proposal.{Proposal}
use Rattle.matching.specs.Lists.{◌∈◌}
use Rattle.matching.specs.Canonical.{before, Ascending, joins}
use Rattle.keepers.specs.Tables.{filler, at, Lower, Higher, Stands, Gap}

pub at_in : (ps : List Proposal) (i : ℕ) → i < length ps → at ps i ∈ ps
at_in [] i h = absurd (omega arith)
at_in (p ∷ ps) zero h = inl refl
at_in (p ∷ ps) (suc i) h = inr (at_in ps i (omega arith))

pub ascends_at : (ps : List Proposal) (i j : ℕ) → Ascending ps → i < j → j < length ps → before (at ps i) (at ps j) ≡ true
ascends_at [] i j up lt h = absurd (omega arith)
ascends_at (p ∷ ps) i zero up lt h = absurd (omega arith)
ascends_at (p ∷ ps) zero (suc j) up lt h = up.0 (at ps j) (at_in ps j (omega arith))
ascends_at (p ∷ ps) (suc i) (suc j) up lt h = ascends_at ps i j up.1 (omega arith) (omega arith)

-- whether p comes before the pair of a and b, is for it or comes after it
abbrev pub order : ℕ → ℕ → Proposal → Ordering
order a b p = ordering_then (nat_cmp p.low a) (nat_cmp p.high b)

rises : (p q : Proposal) (a b : ℕ) → before p q ≡ true → ordering_index (order a b p) ≤ ordering_index (order a b q)
rises p q a b h = grind (arith, nat_tests)

is_lower : (p : Proposal) (a b : ℕ) → order a b p ≡ Less → Lower p a b
is_lower p a b h = grind (arith, nat_tests)

is_there : (p : Proposal) (a b : ℕ) → order a b p ≡ Equal → joins a b p ≡ true
is_there p a b h = grind (arith, nat_tests)

is_higher : (p : Proposal) (a b : ℕ) → order a b p ≡ Greater → Higher p a b
is_higher p a b h = grind (arith, nat_tests)

module _ (ps : List Proposal) (a b : ℕ) (up : Ascending ps) where
  rise : IsNonDecreasingBy (λ p. ordering_index (order a b p)) ps
  rise =
      IsNonDecreasingBy-from_default (λ p. ordering_index (order a b p)) ps filler
      (λ i j le lt.
      ⊎_elim
      (λ less. rises (at ps i) (at ps j) a b (ascends_at ps i j up less lt))
      (λ (ge : j ≤ i). let e : i ≡ j = omega arith in rw e (omega arith))
      (cases_lt i j))

  -- a search by that order ends at the proposal for the pair, or at its gap
  pub searched : (r : Result ℕ ℕ) → IsSearchInRange r (length ps) → IsBinarySearchResult (order a b) ps r → MatchResult r (Stands ps a b) (Gap ps a b)
  searched (Ok i) lt equal = record { within = lt; here = is_there (at ps i) a b (equal filler) }
  searched (Err i) le parted =
      record {
        within = le;
        before = λ k h. is_lower (at ps k) a b ((parted rise).0 k filler (omega arith) h);
        after = λ k h l. is_higher (at ps k) a b ((parted rise).1 k filler h l);
      }

-- what the code reads at a place is what stands there
pub read_is : (ps : List Proposal) (i : ℕ) (p : Proposal) → i < length ps → p ≡ get_or ps i p → at ps i ≡ p
read_is ps i p lt e = get_or_default ps i filler p lt ∙ sym e
