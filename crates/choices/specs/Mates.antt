-- The table of mates as a function: N l v is the mate of the meter v at the level l, or v itself where it has none.
use Rattle.std.specs.Prelude.{◌≡◌, ℕ, ◌<◌, Bool, cond, not, ◌&&◌, ◌||◌, is_some, Some, None, Option, ◌==◌, nat_lt, slice_index, slice_index_or, []}
use Rattle.proposals.specs.declared.proposals.Proposal.{Proposal}
use Rattle.matching.specs.Matching.{level}
use Rattle.matching.specs.Meanings.{ratio}
use Rattle.choices.specs.declared.mates.Mates.{Mates}

-- what the table holds
abbrev pub entry : Mates → ℕ → ℕ → ℕ
entry m l v = slice_index (slice_index_or m.mates l []) v

-- a place of the table
abbrev pub in_table : ℕ → ℕ → Bool
in_table l v = nat_lt v 256 && nat_lt l 20

-- the mate as an answer: none for a meter that has its own number, and none outside the table
abbrev pub mate_shown : (ℕ → ℕ → ℕ) → ℕ → ℕ → Option ℕ
mate_shown N v l = cond (in_table l v) (cond (N l v == v) None (Some (N l v))) None

-- a meter has no mate at a level
abbrev pub free_in : (ℕ → ℕ → ℕ) → ℕ → ℕ → Bool
free_in N v l = not (is_some (mate_shown N v l))

-- both meters of a proposal are free at its level
abbrev pub both_free : (ℕ → ℕ → ℕ) → Proposal → Bool
both_free N p = free_in N p.low (level ratio p) && free_in N p.high (level ratio p)

-- N with w for the mate of v at the level l
abbrev pub written : (ℕ → ℕ → ℕ) → ℕ → ℕ → ℕ → ℕ → ℕ → ℕ
written N l v w j u = cond (j == l && u == v) w (N j u)

-- N with a and b as mates of each other at the level l
abbrev pub joined : (ℕ → ℕ → ℕ) → ℕ → ℕ → ℕ → ℕ → ℕ → ℕ
joined N l a b = written (written N l a b) l b a

-- N with a and b without mates at the level l
abbrev pub parted : (ℕ → ℕ → ℕ) → ℕ → ℕ → ℕ → ℕ → ℕ → ℕ
parted N l a b = written (written N l a a) l b b

-- the proposal's higher meter is the mate of its lower one at its level
abbrev pub mated : (ℕ → ℕ → ℕ) → Proposal → Bool
mated N p = N (level ratio p) p.low == p.high

-- N with the meters of a proposal parted at its level, if they were mates there
abbrev pub parted_if_mated : (ℕ → ℕ → ℕ) → Proposal → ℕ → ℕ → ℕ
parted_if_mated N p j u = cond (mated N p) (parted N (level ratio p) p.low p.high j u) (N j u)

-- the proposal is of the level l, has the meter v, and both its meters are free
abbrev pub offered : (ℕ → ℕ → ℕ) → ℕ → ℕ → Proposal → Bool
offered N l v p = (p.low == v || p.high == v) && (level ratio p == l && both_free N p)

-- N with the meters of a proposal as mates at its level, if both were free there
abbrev pub joined_if_free : (ℕ → ℕ → ℕ) → Proposal → ℕ → ℕ → ℕ
joined_if_free N p j u = cond (both_free N p) (joined N (level ratio p) p.low p.high j u) (N j u)

-- the same, if the proposal is of the level l
abbrev pub considered : (ℕ → ℕ → ℕ) → ℕ → Proposal → ℕ → ℕ → ℕ
considered N l p j u = cond (level ratio p == l) (joined_if_free N p j u) (N j u)

-- N with no mates at the level l
abbrev pub cleared : (ℕ → ℕ → ℕ) → ℕ → ℕ → ℕ → ℕ
cleared N l j u = cond (j == l) u (N j u)

-- the table holds what N says
abbrev pub Holds : Mates → (ℕ → ℕ → ℕ) → Type 0
Holds m N = (l v : ℕ) → l < 20 → v < 256 → entry m l v ≡ N l v

-- each meter has its own number
abbrev pub alone : ℕ → ℕ → ℕ
alone l v = v
