-- The computed level is the one that the powers of the ratio say.
use Rattle.std.proofs.Common.{◌≡◌, ℕ, zero, suc, ◌+◌, ◌*◌, ◌^◌, ◌<◌, ◌≤◌, min, leb, refl, sym, ap, ◌∙◌, ⊎_elim, zero-le, add-one, arith}
use native.Mathlib.Nat.{pow-zero, pow-succ', pow-le-pow_left, pow-le-pow_right}
use Rattle.std.proofs.lemmas.Bool.{leb-true, leb-false, cond_both, cases_lt}
use Rattle.std.specs.Prelude.{IfNone, IfSome, None, Some, Option}
use Rattle.std.specs.Option.{unwrap_or}
use Rattle.proposals.specs.Levels.{highest, level_of, AtLevel}

highest_le : (n r s : ℕ) → highest n r s ≤ n
highest_le zero r s = zero-le
highest_le (suc n) r s =
    cond_both (leb (r ^ suc n) s) (suc n) (highest n r s) (λ l. l ≤ suc n) (λ _. omega arith) (λ _. omega (arith, highest_le n r s))

highest_reached : (n r s : ℕ) → 1 ≤ s → r ^ highest n r s ≤ s
highest_reached zero r s h = rw (pow-zero r) h
highest_reached (suc n) r s h =
    cond_both (leb (r ^ suc n) s) (suc n) (highest n r s) (λ l. r ^ l ≤ s) (λ e. leb-true (r ^ suc n) s e) (λ _. highest_reached n r s h)

highest_below : (n r s : ℕ) → s < r ^ suc n → s < r ^ suc (highest n r s)
highest_below zero r s h = h
highest_below (suc n) r s h =
    cond_both (leb (r ^ suc n) s) (suc n) (highest n r s) (λ l. s < r ^ suc l) (λ _. h) (λ e. highest_below n r s (leb-false (r ^ suc n) s e))

pub level_bound : (r s : ℕ) → level_of r s < 20
unfolding level_of
level_bound r s = omega (arith, highest_le 19 r s)

-- every saving stands at its level, whatever the ratio
pub level_stands : (r s : ℕ) → 2 ≤ r → 1 ≤ s → s ≤ 1048575 → AtLevel r (level_of r s) s
unfolding level_of
level_stands r s two one small = record {
  reached = highest_reached 19 r s one;
  below = rw add-one (highest_below 19 r s (omega (arith, pow-le-pow_left two 20)));
}

-- no other power is the highest: l is, if r ^ l ≤ s and, below the top, s < r ^ (l + 1)
highest_is : (n r s l : ℕ) → 1 ≤ r → l ≤ n → r ^ l ≤ s → (l < n → s < r ^ (l + 1)) → highest n r s ≡ l
highest_is zero r s l some le reached below = omega arith
highest_is (suc n) r s l some le reached below =
    cond_both (leb (r ^ suc n) s) (suc n) (highest n r s) (λ h. h ≡ l)
    (λ e. ⊎_elim
    (λ lt. let up : r ^ (l + 1) ≤ r ^ suc n = pow-le-pow_right some (omega arith) in omega (arith, below lt, leb-true (r ^ suc n) s e))
    (λ ge. omega arith)
    (cases_lt l (suc n)))
    (λ e. ⊎_elim
    (λ lt. highest_is n r s l some (omega arith) reached (λ _. below lt))
    (λ ge. let top : l ≡ suc n = omega arith in let low : r ^ suc n ≤ s = rw top at reached in omega (arith, leb-false (r ^ suc n) s e))
    (cases_lt l (suc n)))

level_is : (s l : ℕ) → l ≤ 19 → 2 ^ l ≤ s → (l < 19 → s < 2 ^ (l + 1)) → level_of 2 s ≡ l
unfolding level_of
level_is s l = highest_is 19 2 s l (omega arith)

pub level_zero : level_of 2 0 ≡ 0
unfolding level_of
level_zero = refl

-- the level is the binary logarithm k of a number, cut at 19
pub level_of_log : (s k : ℕ) → 2 ^ k ≤ s → s < 2 * 2 ^ k → level_of 2 s ≡ min k 19
level_of_log s k reached below =
    let down : 2 ^ min k 19 ≤ 2 ^ k = pow-le-pow_right (omega arith) (omega arith) in
    level_is s (min k 19) (omega arith) (omega arith)
    (λ lt. let same : 2 ^ min k 19 ≡ 2 ^ k = ap (λ i. 2 ^ i) (omega arith) in rw (add-one (min k 19), pow-succ' 2 (min k 19)) (omega arith))

-- the same of a logarithm that 0 has none of
pub level_of_checked_log : (s : ℕ) (o : Option ℕ) → IfNone o (s ≡ 0) → IfSome o (λ k. 2 ^ k ≤ s) → IfSome o (λ k. s < 2 * 2 ^ k) → min (unwrap_or o 0) 19 ≡ level_of 2 s
level_of_checked_log s None none reached below = sym (ap (level_of 2) none ∙ level_zero)
level_of_checked_log s (Some k) none reached below = sym (level_of_log s k reached below)
