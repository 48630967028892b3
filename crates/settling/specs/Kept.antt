-- A copy of a choice with the pairs that are kept of it: what it answers, and what holds of it from call to call.
use Rattle.std.specs.Prelude.{◌≡◌, ℕ, zero, suc, ◌+◌, ◌-◌, ◌<◌, Bool, cond, not, ◌&&◌, ◌≢◌, ◌⊎◌, List, Some, None, Option, ◌==◌, slice_index_or}
use Rattle.proposals.specs.declared.proposals.Proposal.{Proposal}
use Rattle.matching.specs.Lists.{◌∈◌}
use Rattle.matching.specs.Matching.{Choice}
use Rattle.matching.specs.Canonical.{Ascending}
use Rattle.matching.specs.Meanings.{ratio}
use Rattle.choices.specs.Mates.{entry, mate_shown, in_table, Holds, alone}
use Rattle.choices.specs.Showing.{Shows}
use Rattle.settling.specs.declared.kept_pairs.KeptPairs.{KeptPairs}

-- the level that a height stands for: none for 0, else one less
abbrev pub level_at : ℕ → Option ℕ
level_at zero = None
level_at (suc l) = Some l

-- the level of the meter's kept pair, if it is in one
abbrev pub kept_at : KeptPairs → ℕ → Option ℕ
kept_at k v = level_at (slice_index_or k.heights v 0)

-- 0 for no level, else one more than the level
abbrev pub height : Option ℕ → ℕ
height None = 0
height (Some l) = l + 1

-- 0 where the meter is in no kept pair, else one more than that pair's level
abbrev pub height_of : KeptPairs → ℕ → ℕ
height_of k v = height (kept_at k v)

-- a kept pair has a meter and its mate at the level of its height
abbrev pub partner_shown : KeptPairs → ℕ → Option ℕ
partner_shown k v = cond (height_of k v == 0) None (mate_shown (entry k.choice) v (height_of k v - 1))

-- a and b are two meters of the table N, and both are free at its level l
abbrev pub joinable : (ℕ → ℕ → ℕ) → ℕ → ℕ → ℕ → Bool
joinable N l a b = not (a == b) && (in_table l a && (in_table l b && (N l a == a && N l b == b)))

-- b is the mate of a at the level l of the table N
abbrev pub are_mates : (ℕ → ℕ → ℕ) → ℕ → ℕ → ℕ → Bool
are_mates N l a b = not (a == b) && (in_table l a && N l a == b)

-- N is a matching at each level: the mate of a meter's mate is the meter
pub record Symmetric (N : ℕ → ℕ → ℕ) : Type 0 where
  pub inside : (l v : ℕ) → l < 20 → v < 256 → N l v < 256
  pub back : (l v : ℕ) → l < 20 → v < 256 → N l (N l v) ≡ v

-- v is in a kept pair of level l: it has a mate there, which is in a kept pair of that level too
pub record Held (N : ℕ → ℕ → ℕ) (A : ℕ → ℕ) (v l : ℕ) : Type 0 where
  pub low : l < 20
  pub mated : N l v ≢ v
  pub level : A (N l v) ≡ l + 1

-- each meter, by its height A, is free or in a kept pair
abbrev pub Paired : (ℕ → ℕ → ℕ) → (ℕ → ℕ) → Type 0
Paired N A = (v l : ℕ) → v < 256 → A v ≡ l + 1 → Held N A v l

-- the copy is a choice, the kept pairs are chosen ones, and each chosen pair is kept or has a meter that is kept at a higher level
pub record Sound (k : KeptPairs) : Type 0 where
  pub symmetric : Symmetric (entry k.choice)
  pub paired : Paired (entry k.choice) (height_of k)
  pub settled : (l v : ℕ) → l < 20 → v < 256 → entry k.choice l v ≢ v → (l < height_of k v) ⊎ (l < height_of k (entry k.choice l v))

-- nothing is chosen, and nothing is kept
pub record Begun (k : KeptPairs) : Type 0 where
  pub chosen : Holds k.choice alone
  pub free : (v : ℕ) → height_of k v ≡ 0
  pub sound : Sound k

-- k is sound, and its copy is that of the choice C
pub record Copies (k : KeptPairs) (C : List Proposal) : Type 0 where
  pub choice : Choice ratio C
  pub in_order : Ascending C
  pub inside : (p : Proposal) → p ∈ C → p.high < 256
  pub shows : Shows (entry k.choice) C
  pub sound : Sound k
