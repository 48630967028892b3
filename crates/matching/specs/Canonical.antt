-- Lists of proposals in canonical order: by rising lower meter, then by rising higher meter.
use Rattle.std.specs.Prelude.{◌≡◌, ℕ, Bool, true, cond, not, ◌&&◌, ◌||◌, List, [], ◌∷◌, filter, Option, ◌==◌, nat_lt}
use Rattle.std.specs.List.{flat_map}
use Rattle.std.specs.Option.{option_map}
use Rattle.proposals.specs.declared.proposals.Proposal.{Proposal}
use Rattle.matching.specs.Lists.{Pairwise, any, first_of}
use Rattle.matching.specs.Matching.{has, other}

-- p comes before q
abbrev pub before : Proposal → Proposal → Bool
before p q = nat_lt p.low q.low || (p.low == q.low && nat_lt p.high q.high)

-- each comes before all later ones, so that there is at most one for two meters
abbrev pub Ascending : List Proposal → Type 0
Ascending ps = Pairwise (λ p q. before p q ≡ true) ps

-- p put in at its place
abbrev pub insert : Proposal → List Proposal → List Proposal
insert p [] = p ∷ []
insert p (q ∷ qs) = cond (before p q) (p ∷ q ∷ qs) (q ∷ insert p qs)

-- q is for the lower meter a and the higher meter b
abbrev pub joins : ℕ → ℕ → Proposal → Bool
joins a b q = q.low == a && q.high == b

-- one of the list is for a and b
abbrev pub is_for : ℕ → ℕ → List Proposal → Bool
is_for a b ps = any (joins a b) ps

-- the list but for what joins a and b
abbrev pub without : ℕ → ℕ → List Proposal → List Proposal
without a b ps = filter (λ q. not (joins a b q)) ps

-- the saving of the one for a and b, or none
abbrev pub saving_in : List Proposal → ℕ → ℕ → Option ℕ
saving_in ps a b = option_map (λ p. p.saving) (first_of (joins a b) ps)

-- of kept pairs: the other meter and the saving of the one that has the meter v, or none
abbrev pub partner_in : List Proposal → ℕ → Option (ℕ × ℕ)
partner_in K v = option_map (λ p. (other p v, p.saving)) (first_of (λ p. has p v) K)

-- of kept pairs: lower meter, higher meter and saving of each
abbrev pub listing : List Proposal → List ℕ
listing K = flat_map (λ p. p.low ∷ p.high ∷ p.saving ∷ []) K
