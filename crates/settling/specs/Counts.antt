-- How many meters pass a test, and how many pairs two rows of partners differ by.
use Rattle.std.specs.Prelude.{ℕ, zero, suc, ◌+◌, Bool, cond, not, ◌&&◌, ◌==◌, nat_lt}

-- 1 for a test that passes, and 0 for one that does not
abbrev pub one : Bool → ℕ
one b = cond b 1 0

-- how many of the numbers below n pass the test
abbrev pub tally : (ℕ → Bool) → ℕ → ℕ
tally t zero = 0
tally t (suc n) = tally t n + one (t n)

-- v is the lower meter of a pair of P that is none of Q; a meter without a partner has its own number
abbrev pub lost : (ℕ → ℕ) → (ℕ → ℕ) → ℕ → Bool
lost P Q v = nat_lt v (P v) && not (P v == Q v)

-- how many pairs of meters below n are in exactly one of the two
abbrev pub differing : (ℕ → ℕ) → (ℕ → ℕ) → ℕ → ℕ
differing P Q n = tally (lost P Q) n + tally (lost Q P) n
