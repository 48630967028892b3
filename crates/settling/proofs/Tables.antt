-- What the answers of a table of mates say of it.
use Rattle.std.proofs.Common.{◌≡◌, ℕ, ◌+◌, ◌<◌, true, false, eqb, ◌≢◌, Some, None, Option, unwrap_or, ap, arith}
use Rattle.std.specs.Option.{option_eq}
use Rattle.std.proofs.lemmas.Bool.{eqb-true, eqb-false, false≢true}
use Rattle.std.proofs.lemmas.Bool.Decides.{nat_tests}
use Rattle.choices.specs.Mates.{mate_shown}
use Rattle.settling.specs.Kept.{height, joinable, are_mates}

module _ (N : ℕ → ℕ → ℕ) (v l : ℕ) where
  pub shown_some : (w : ℕ) → mate_shown N v l ≡ Some w → (v < 256) × (l < 20) × (w ≡ N l v) × (w ≢ v)
  shown_some w e = grind (arith, nat_tests)

  pub shown_none : v < 256 → l < 20 → mate_shown N v l ≡ None → N l v ≡ v
  shown_none hv hl e = grind (arith, nat_tests)

  pub some_shown : v < 256 → l < 20 → N l v ≢ v → mate_shown N v l ≡ Some (N l v)
  some_shown hv hl ne = grind (arith, nat_tests)

  pub shown_or : v < 256 → l < 20 → unwrap_or (mate_shown N v l) v ≡ N l v
  shown_or hv hl = grind (arith, nat_tests)

-- the height of a meter that is kept at a level, and of one that is not
pub kept_is : (o : Option ℕ) (l : ℕ) → option_eq eqb o (Some l) ≡ true → height o ≡ l + 1
kept_is None l e = absurd (false≢true e)
kept_is (Some j) l e = ap (λ i. i + 1) (eqb-true j l e)

pub kept_not : (o : Option ℕ) (l : ℕ) → option_eq eqb o (Some l) ≡ false → height o ≢ l + 1
kept_not None l e z = omega arith
kept_not (Some j) l e z = eqb-false j l e (omega arith)

module _ (N : ℕ → ℕ → ℕ) (l a b : ℕ) where
  pub joinable_parts : joinable N l a b ≡ true → (a ≢ b) × (l < 20) × (a < 256) × (b < 256) × (N l a ≡ a) × (N l b ≡ b)
  joinable_parts h = grind (arith, nat_tests)

  pub mates_parts : are_mates N l a b ≡ true → (a ≢ b) × (l < 20) × (a < 256) × (N l a ≡ b)
  mates_parts h = grind (arith, nat_tests)
