-- What is proved, over any ladder and any list of proposals.
use Rattle.std.specs.Prelude.{◌≡◌, ℕ, ◌+◌, ◌-◌, ◌*◌, ◌<◌, ◌≤◌, List, length}
use Rattle.proposals.specs.declared.proposals.Proposal.{Proposal}
use Rattle.proposals.specs.Levels.{level_of, AtLevel}
use Rattle.matching.specs.Lists.{◌∈◌, Distinct, Alike}
use Rattle.matching.specs.Matching.{Pairing, Choice, Maximal, Settled, SameButAt, kept, total, altered}
use Rattle.matching.specs.Canonical.{Ascending}

-- the computed level is the one that the powers of the ratio say, and no other is
pub record Levels (r s : ℕ) : Type 0 where
  pub stands : AtLevel r (level_of r s) s
  pub only : (l : ℕ) → AtLevel r l s → l ≡ level_of r s
  pub bound : level_of r s < 20

abbrev pub LevelByPowers : Type 0
LevelByPowers = (r s : ℕ) → 2 ≤ r → 1 ≤ s → s ≤ 1048575 → Levels r s

-- what is kept of a choice meets the relation
abbrev pub Combining : Type 0
Combining = (r : ℕ) (C : List Proposal) → Choice r C → Settled r C (kept r C)

-- the relation has one answer, and in canonical order that is one list
pub record WhatIsKept (r : ℕ) (C M : List Proposal) : Type 0 where
  pub members : Alike M (kept r C)
  pub list : Ascending C → Ascending M → M ≡ kept r C

abbrev pub OneAnswerToEach : Type 0
OneAnswerToEach = (r : ℕ) (C M : List Proposal) → Choice r C → Settled r C M → WhatIsKept r C M

-- the share: no pairing of the open proposals saves more than 2 r² / (r - 1) times what combining keeps of a maximal choice
abbrev pub Share : Type 0
Share = (r : ℕ) (opened C R : List Proposal) → 2 ≤ r → Maximal r opened C →
    ((p : Proposal) → p ∈ R → p ∈ opened) → Pairing R →
    (r - 1) * total R ≤ 2 * r * r * total (kept r C)

abbrev pub ShareOfTwo : Type 0
ShareOfTwo = (opened C R : List Proposal) → Maximal 2 opened C →
    ((p : Proposal) → p ∈ R → p ∈ opened) → Pairing R → total R ≤ 8 * total (kept 2 C)

-- the alteration limit: each pair that comes to a choice or goes from it, all at level l, alters at most 2 l + 1 kept pairs
abbrev pub Alteration : Type 0
Alteration = (r l : ℕ) (C C' : List Proposal) → Choice r C → Choice r C' → SameButAt r l C C' →
    altered (kept r C) (kept r C') ≤ altered C C' * (2 * l + 1)

-- what is counted and summed does not depend on how the pairs are stored
pub record SameFigures (A B A' B' : List Proposal) : Type 0 where
  pub count : length A ≡ length A'
  pub saving : total A ≡ total A'
  pub difference : altered A B ≡ altered A' B'

abbrev pub StoredAnyhow : Type 0
StoredAnyhow = (A B A' B' : List Proposal) → Distinct A → Distinct B → Distinct A' → Distinct B' → Alike A A' → Alike B B' → SameFigures A B A' B'
