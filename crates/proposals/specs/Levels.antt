-- The level of a saving on a ladder whose steps are the powers of a ratio.
use Rattle.std.specs.Prelude.{ℕ, zero, suc, ◌+◌, ◌^◌, ◌<◌, ◌≤◌, cond, nat_le}

-- the highest l of 0 .. n with r ^ l ≤ s, or 0
abbrev pub highest : ℕ → ℕ → ℕ → ℕ
highest zero r s = 0
highest (suc n) r s = cond (nat_le (r ^ suc n) s) (suc n) (highest n r s)

-- the level of the saving s at the ratio r: 19 is enough for every ratio from 2 on, as no saving reaches 2 ^ 20
unfoldable pub level_of : ℕ → ℕ → ℕ
level_of r s = highest 19 r s

-- s stands at the level l of the ladder of ratio r
pub record AtLevel (r l s : ℕ) : Type 0 where
  pub reached : r ^ l ≤ s
  pub below : s < r ^ (l + 1)
