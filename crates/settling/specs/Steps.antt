-- What the steps of settling do.
-- N l v is the mate of v at the level l, and v itself where it has none there; A v is v's height, as in Kept.
use Rattle.std.specs.Prelude.{◌≡◌, ℕ, ◌+◌, ◌<◌, ◌≤◌, Bool, true, ◌≢◌, ◌⊎◌, Some, None, Option}
use Rattle.choices.specs.Mates.{entry, mate_shown}
use Rattle.settling.specs.declared.kept_pairs.KeptPairs.{KeptPairs}
use Rattle.settling.specs.declared.places.Place.{Place}
use Rattle.settling.specs.Kept.{height_of, Symmetric, Paired}

-- at v nothing is left to do for level l: its kept pair is of that level or a higher one, or P leaves it out
abbrev pub Done : (ℕ → ℕ) → (ℕ → ℕ → Type 0) → ℕ → ℕ → Type 0
Done A P v l = (l < A v) ⊎ P v l

-- each chosen pair is kept, or one of its two is kept at a higher level, or P leaves one of its two out
abbrev pub SettledBut : (ℕ → ℕ → ℕ) → (ℕ → ℕ) → (ℕ → ℕ → Type 0) → Type 0
SettledBut N A P = (l v : ℕ) → l < 20 → v < 256 → N l v ≢ v → Done A P v l ⊎ Done A P (N l v) l

-- from lo to hi no level has anything to do at m: it has no mate there, or one of the two is kept there or higher
abbrev pub Passed : (ℕ → ℕ → ℕ) → (ℕ → ℕ) → ℕ → ℕ → ℕ → Type 0
Passed N A m lo hi = (l : ℕ) → lo ≤ l → l ≤ hi → l < 20 → m < 256 → N l m ≢ m → (l < A m) ⊎ (l < A (N l m))

-- the levels of m from 0 to k
abbrev pub Upto : ℕ → ℕ → ℕ → ℕ → Type 0
Upto m k v l = (v ≡ m) × (l ≤ k)

-- the levels of the meter that was let go, up to the level that it was let go from
abbrev pub Due : Option Place → ℕ → ℕ → Type 0
Due None v l = ⊥
Due (Some p) v l = Upto p.meter p.level v l

-- the level that it was let go from is below l
abbrev pub Under : Option Place → ℕ → Type 0
Under None l = Unit {0}
Under (Some p) l = p.level < l

-- what a test leaves out
abbrev pub Out : (ℕ → ℕ → Bool) → ℕ → ℕ → Type 0
Out P v l = P v l ≡ true

-- one or the other
abbrev pub Or : (ℕ → ℕ → Type 0) → (ℕ → ℕ → Type 0) → ℕ → ℕ → Type 0
Or P Q v l = P v l ⊎ Q v l

abbrev pub PairedIn : KeptPairs → Type 0
PairedIn k = Paired (entry k.choice) (height_of k)

abbrev pub SettledIn : KeptPairs → (ℕ → ℕ → Type 0) → Type 0
SettledIn k P = SettledBut (entry k.choice) (height_of k) P

-- m has the height h, and every other meter stays as it is
pub record HeightSet (k k' : KeptPairs) (m h : ℕ) : Type 0 where
  pub choice : k'.choice ≡ k.choice
  pub here : m < 256 → height_of k' m ≡ h
  pub rest : (v : ℕ) → v ≢ m → height_of k' v ≡ height_of k v
  pub beyond : 256 ≤ m → height_of k' m ≡ height_of k m

-- m and x are free, and every other meter stays as it is
pub record Freed (k k' : KeptPairs) (m x : ℕ) : Type 0 where
  pub choice : k'.choice ≡ k.choice
  pub free : m < 256 → height_of k' m ≡ 0
  pub other_free : x < 256 → height_of k' x ≡ 0
  pub lower : (v : ℕ) → height_of k' v ≤ height_of k v
  pub rest : (v : ℕ) → v ≢ m → v ≢ x → height_of k' v ≡ height_of k v

-- what `release` answers and does: none for a meter in no kept pair
abbrev pub Released : Option Place → KeptPairs → KeptPairs → ℕ → Type 0
Released None k k' m = (k' ≡ k) × ((l : ℕ) → height_of k m ≡ l + 1 → mate_shown (entry k.choice) m l ≡ None)
Released (Some p) k k' m = (height_of k m ≡ p.level + 1) × (mate_shown (entry k.choice) m p.level ≡ Some p.meter) × Freed k k' m p.meter

-- b is the mate of a at its level, and both are free or in pairs of lower levels
pub record Wanted (k : KeptPairs) (a : ℕ) (b : Place) : Type 0 where
  pub inside : a < 256
  pub chosen : b.meter ≡ entry k.choice b.level a
  pub other : b.meter ≢ a
  pub mine : height_of k a ≤ b.level
  pub theirs : height_of k b.meter ≤ b.level

-- what `wanted` answers, of the levels of m up to the given one
abbrev pub Found : Option Place → KeptPairs → Place → Type 0
Found None k m = Passed (entry k.choice) (height_of k) m.meter 0 m.level
Found (Some p) k m = (p.level ≤ m.level) × Wanted k m.meter p × Passed (entry k.choice) (height_of k) m.meter (p.level + 1) m.level

-- a and b are a kept pair of b's level, and what that undoes at other meters is due again
pub record Coupled (k k' : KeptPairs) (a : ℕ) (b : Place) (x y : Option Place) : Type 0 where
  pub paired : PairedIn k'
  pub level : height_of k' a ≡ b.level + 1
  pub due : (v j : ℕ) → v < 256 → j < height_of k v → (j < height_of k' v) ⊎ (Due x v j ⊎ Due y v j)

-- what D leaves out of the settled pairs is settled
pub record Resettled (k k' : KeptPairs) (D : ℕ → ℕ → Type 0) : Type 0 where
  pub choice : k'.choice ≡ k.choice
  pub settles : (P : ℕ → ℕ → Bool) → Symmetric (entry k.choice) → PairedIn k → SettledIn k (Or (Out P) D)
      → PairedIn k' × SettledIn k' (Out P)
