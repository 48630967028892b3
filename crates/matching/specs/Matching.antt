-- Pairs of meters, the levels of their savings, a choice at each level, and what static combining keeps of it.
-- All of it is over the ratio r of the ladder.
use Rattle.std.specs.Prelude.{◌≡◌, ℕ, zero, suc, ◌<◌, Bool, true, false, cond, not, ◌&&◌, ◌||◌, ◌⊎◌, List, [], ◌++◌, length, sum_by, filter, ◌==◌, ◌≢◌}
use Rattle.proposals.specs.declared.proposals.Proposal.{Proposal}
use Rattle.proposals.specs.Levels.{level_of}
use Rattle.matching.specs.Lists.{◌∈◌, Pairwise, any}

abbrev pub level : ℕ → Proposal → ℕ
level r p = level_of r p.saving

-- how many levels there are: no saving reaches 2 ^ 20, and no ratio is below 2
abbrev pub levels : ℕ
levels = 20

-- the meter is one of the pair's two
unfoldable pub has : Proposal → ℕ → Bool
has p v = p.low == v || p.high == v

-- the pair's other meter
abbrev pub other : Proposal → ℕ → ℕ
other p v = cond (p.low == v) p.high p.low

-- the two pairs share a meter
unfoldable pub shares : Proposal → Proposal → Bool
shares p q = has q p.low || has q p.high

-- the same meters and the same saving
unfoldable pub same : Proposal → Proposal → Bool
same p q = p.low == q.low && p.high == q.high && p.saving == q.saving

abbrev pub is_in : List Proposal → Proposal → Bool
is_in K p = any (same p) K

-- a pairing: no meter occurs twice
abbrev pub Pairing : List Proposal → Type 0
Pairing K = Pairwise (λ p q. shares p q ≡ false) K

-- a choice is a matching at each level: two of one level share no meter
abbrev pub Choice : ℕ → List Proposal → Type 0
Choice r C = Pairwise (λ p q. level r p ≡ level r q → shares p q ≡ false) C

-- a choice of the open proposals that is maximal at each level
pub record Maximal (r : ℕ) (opened C : List Proposal) : Type 0 where
  -- the chosen ones are open
  pub among : (p : Proposal) → p ∈ C → p ∈ opened
  -- two chosen ones of one level share no meter
  pub choice : Choice r C
  -- every open one that is not chosen shares a meter with a chosen one of its own level
  pub none_left : (p : Proposal) → p ∈ opened → (p ∈ C) ⊎ ((q : Proposal) × (q ∈ C) × (level r q ≡ level r p) × (shares p q ≡ true))

-- at level l: a pair of that level stays if it shares no meter with a pair of K, which was kept above; any other if it is in K
abbrev pub stays : ℕ → List Proposal → ℕ → Proposal → Bool
stays r K l p = cond (level r p == l) (not (any (shares p) K)) (is_in K p)

-- what is kept of C at the d levels from l upward, from the highest down
unfoldable pub kept_from : ℕ → List Proposal → ℕ → ℕ → List Proposal
kept_from r C zero l = []
kept_from r C (suc d) l = filter (stays r (kept_from r C d (suc l)) l) C

-- static combining: from the highest level down, each chosen pair whose meters are in no kept pair of a higher level
unfoldable pub kept : ℕ → List Proposal → List Proposal
kept r C = kept_from r C levels 0

-- combining as a relation: M is of the choice C, no meter occurs in it twice,
-- and each chosen pair is in it or shares a meter with one in it of a higher level
pub record Settled (r : ℕ) (C M : List Proposal) : Type 0 where
  pub chosen : (p : Proposal) → p ∈ M → p ∈ C
  pub pairing : Pairing M
  pub every : (p : Proposal) → p ∈ C → (p ∈ M) ⊎ ((q : Proposal) × (q ∈ M) × (level r p < level r q) × (shares p q ≡ true))

-- what the pairs save together
abbrev pub total : List Proposal → ℕ
total K = sum_by (λ p. p.saving) K

-- the pairs that are in exactly one of the two lists, and how many they are
abbrev pub changed : List Proposal → List Proposal → List Proposal
changed A B = filter (λ p. not (is_in B p)) A ++ filter (λ p. not (is_in A p)) B

abbrev pub altered : List Proposal → List Proposal → ℕ
altered A B = length (changed A B)

-- the two choices have the same members at every level other than l
abbrev pub SameButAt : ℕ → ℕ → List Proposal → List Proposal → Type 0
SameButAt r l C C' = (p : Proposal) → (level r p ≢ l) → (p ∈ C → p ∈ C') × (p ∈ C' → p ∈ C)
