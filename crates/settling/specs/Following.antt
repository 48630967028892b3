-- A level of a table of mates that is replaced by another matching, pair by pair.
use Rattle.std.specs.Prelude.{◌≡◌, ℕ, ◌<◌, min, Bool, cond, ◌&&◌, List, ◌==◌, nat_lt, slice_index}
use Rattle.choices.specs.Mates.{entry, Holds}
use Rattle.settling.specs.Counts.{lost}
use Rattle.settling.specs.Kept.{Sound}
use Rattle.settling.specs.declared.kept_pairs.KeptPairs.{KeptPairs}

-- T is a matching of the meters below 256: the mate of a meter's mate is the meter
pub record Involution (T : ℕ → ℕ) : Type 0 where
  pub inside : (v : ℕ) → v < 256 → T v < 256
  pub back : (v : ℕ) → v < 256 → T (T v) ≡ v

-- N with T for its level l
abbrev pub replaced : (ℕ → ℕ → ℕ) → ℕ → (ℕ → ℕ) → ℕ → ℕ → ℕ
replaced N l T j u = cond (j == l) (T u) (N j u)

-- u is in a pair of P that is none of Q and whose lower meter is below i
abbrev pub gone : (ℕ → ℕ) → (ℕ → ℕ) → ℕ → ℕ → Bool
gone P Q i u = nat_lt (min u (P u)) i && lost P Q (min u (P u))

-- N with the level l without the pairs of P that are none of Q, so far
abbrev pub removed_to : (ℕ → ℕ → ℕ) → ℕ → (ℕ → ℕ) → (ℕ → ℕ) → ℕ → ℕ → ℕ → ℕ
removed_to N l P Q i = replaced N l (λ u. cond (gone P Q i u) u (P u))

-- and then with those of Q that are none of P, so far
abbrev pub come : (ℕ → ℕ) → (ℕ → ℕ) → ℕ → ℕ → ℕ
come P Q i u = cond (gone Q P i u) (Q u) (cond (P u == Q u) (P u) u)

abbrev pub added_to : (ℕ → ℕ → ℕ) → ℕ → (ℕ → ℕ) → (ℕ → ℕ) → ℕ → ℕ → ℕ → ℕ
added_to N l P Q i = replaced N l (come P Q i)

-- k is k₀ with its level l without the pairs of P that are none of Q and whose lower meter is below i
pub record Forgotten (k₀ : KeptPairs) (l : ℕ) (P Q : ℕ → ℕ) (i : ℕ) (k : KeptPairs) : Type 0 where
  pub sound : Sound k
  pub choice : Holds k.choice (removed_to (entry k₀.choice) l P Q i)

-- k is k₀ with its level l of the pairs that are in P and Q, and of those of Q whose lower meter is below i
pub record Learnt (k₀ : KeptPairs) (l : ℕ) (P Q : ℕ → ℕ) (i : ℕ) (k : KeptPairs) : Type 0 where
  pub sound : Sound k
  pub choice : Holds k.choice (added_to (entry k₀.choice) l P Q i)

-- k is k₀ with its level l replaced by T
pub record Follows (k₀ : KeptPairs) (l : ℕ) (T : ℕ → ℕ) (k : KeptPairs) : Type 0 where
  pub sound : Sound k
  pub choice : Holds k.choice (replaced (entry k₀.choice) l T)

-- the row as a function
abbrev pub row : List ℕ → ℕ → ℕ
row xs v = slice_index xs v
