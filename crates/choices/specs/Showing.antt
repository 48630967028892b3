-- A table of mates, as a function, that shows a choice.
use Rattle.std.specs.Prelude.{◌≡◌, ℕ, ◌<◌, true, cond, not, ◌≢◌, List, [], ◌∷◌, filter, ◌==◌}
use Rattle.proposals.specs.declared.proposals.Proposal.{Proposal}
use Rattle.matching.specs.Lists.{◌∈◌}
use Rattle.matching.specs.Matching.{level, has, other}
use Rattle.matching.specs.Meanings.{ratio}
use Rattle.matching.specs.Rules.{patient_adds}

-- N shows the choice C: the meters of a chosen proposal are mates at its level, and no others are
pub record Shows (N : ℕ → ℕ → ℕ) (C : List Proposal) : Type 0 where
  pub low : (p : Proposal) → p ∈ C → N (level ratio p) p.low ≡ p.high
  pub high : (p : Proposal) → p ∈ C → N (level ratio p) p.high ≡ p.low
  pub only : (l v : ℕ) → l < 20 → v < 256 → N l v ≢ v → (p : Proposal) × (p ∈ C) × (level ratio p ≡ l) × (has p v ≡ true) × (other p v ≡ N l v)

-- the choice C, after each of the proposals of level l in turn was chosen if both its meters were free
abbrev pub chosen_in_turn : ℕ → List Proposal → List Proposal → List Proposal
chosen_in_turn l C [] = C
chosen_in_turn l C (p ∷ ps) = chosen_in_turn l (cond (level ratio p == l) (patient_adds ratio C p) C) ps

-- the proposals of other levels than l
abbrev pub elsewhere : ℕ → List Proposal → List Proposal
elsewhere l C = filter (λ p. not (level ratio p == l)) C

-- all meters of the proposals are below 256
abbrev pub Small : List Proposal → Type 0
Small ps = (p : Proposal) → p ∈ ps → p.high < 256

-- a table that showed C shows what was chosen of the level l in turn
abbrev pub ChoosesInTurn : (ℕ → ℕ → ℕ) → List Proposal → ℕ → (ℕ → ℕ → ℕ) → Type 0
ChoosesInTurn N ps l N' = (C : List Proposal) → Shows N C → Small C → Small ps → Shows N' (chosen_in_turn l C ps)
