-- How far combining has come, from the highest level down and within a level by rising lower meter.
use Rattle.std.specs.Prelude.{◌≡◌, ℕ, ◌<◌, ◌≤◌, true, cond, ◌&&◌, ◌⊎◌, List, ◌==◌, slice_index, slice_set}
use Rattle.proposals.specs.declared.proposals.Proposal.{Proposal}
use Rattle.matching.specs.Lists.{◌∈◌}
use Rattle.matching.specs.Matching.{level, shares, Pairing}
use Rattle.matching.specs.Meanings.{Meaning, ratio}
use Rattle.combining.specs.Partners.{partner_or}

-- K is what is kept of the choice C at the levels above l, and at level l of the pairs whose lower meter is below k
pub record KeptTo (C : List Proposal) (l k : ℕ) (K : List Proposal) : Type 0 where
  pub chosen : (p : Proposal) → p ∈ K → p ∈ C
  pub floor : (p : Proposal) → p ∈ K → l ≤ level ratio p
  pub pairing : Pairing K
  -- each chosen pair that was looked at is kept or shares a meter with a kept one of a higher level
  pub every : (p : Proposal) → p ∈ C → (l < level ratio p) ⊎ ((level ratio p ≡ l) × (p.low < k)) →
      (p ∈ K) ⊎ ((q : Proposal) × (q ∈ K) × (level ratio p < level ratio q) × (shares p q ≡ true))

-- the first numbers of the row are the partners in K
abbrev pub Shows : ℕ → List Proposal → List ℕ → Type 0
Shows n K row = (v : ℕ) → v < n → slice_index row v ≡ partner_or K v

-- the row shows what is kept so far
abbrev pub Reached : Meaning → ℕ → ℕ → List ℕ → Type 0
Reached m l k row = (K : List Proposal) × KeptTo m.chosen l k K × Shows m.size K row

-- the levels from l upward are done
abbrev pub DownTo : Meaning → ℕ → List ℕ → Type 0
DownTo m l row = Reached m l m.size row

-- the row with the pair of a and b kept, if both have their own number in it
abbrev pub with_pair : List ℕ → ℕ → ℕ → List ℕ
with_pair row a b = cond (slice_index row a == a && slice_index row b == b) (slice_set (slice_set row a b) b a) row
