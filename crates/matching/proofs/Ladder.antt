-- The level that the powers of the ratio say is the computed one.
use Rattle.std.proofs.Common.{◌≡◌, ℕ, ◌+◌, ◌^◌, ◌<◌, ◌≤◌, inl, inr, arith}
use native.Mathlib.Nat.{pow-le-pow_right}
use Rattle.std.proofs.lemmas.Bool.{cases_order}
use Rattle.proposals.specs.Levels.{level_of, AtLevel}
use Rattle.proposals.proofs.Ladder.{level_stands, level_bound}
use Rattle.matching.specs.Theorems.{LevelByPowers}

not_below : (r s k l : ℕ) → 1 ≤ r → AtLevel r k s → AtLevel r l s → k < l → ⊥
not_below r s k l some a b lt = let up : r ^ (k + 1) ≤ r ^ l = pow-le-pow_right some (omega arith) in omega (arith, a.below, b.reached)

one_level : (r s k l : ℕ) → 1 ≤ r → AtLevel r k s → AtLevel r l s → k ≡ l
one_level r s k l some a b =
    elim (cases_order k l) [
      | inl e ↦ e
      | inr (inl lt) ↦ absurd (not_below r s k l some a b lt)
      | inr (inr lt) ↦ absurd (not_below r s l k some b a lt)
    ]

pub levels_by_powers : LevelByPowers
levels_by_powers r s two one small =
    let stands = level_stands r s two one small in
    record { stands = stands; only = λ l a. one_level r s l (level_of r s) (omega arith) a stands; bound = level_bound r s }
