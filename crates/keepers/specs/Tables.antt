-- What a lent table holds: the proposals in its first places, by rising lower, then higher meter.
use Rattle.std.specs.Prelude.{◌≡◌, ℕ, ◌<◌, ◌≤◌, min, true, false, ◌⊎◌, List, length, take, Some, Result, MatchResult, slice_index_or}
use Rattle.std.proofs.Common.{lit<, lit≤}
use Rattle.proposals.specs.declared.pairs.Pair.{Pair}
use Rattle.proposals.specs.declared.proposals.Proposal.{Proposal}
use Rattle.proposals.specs.declared.refusals.Refusal.{Refusal}
use Rattle.proposals.specs.declared.refusals.Reason.TheVariants.{AlreadyOpen, KeeperFull, NotOpen}
use Rattle.matching.specs.Lists.{first_of}
use Rattle.matching.specs.Canonical.{insert, joins, is_for, without}
use Rattle.matching.specs.Meanings.{found}
use Rattle.keepers.specs.declared.tables.OpenTable.{OpenTable}

-- how many proposals a table can hold
abbrev pub capacity_of : OpenTable → ℕ
capacity_of t = min (length t.table.now) 4096

-- how many it holds
abbrev pub count_of : OpenTable → ℕ
count_of t = min t.len (capacity_of t)

-- those that it holds
abbrev pub opened_in : OpenTable → List Proposal
opened_in t = take (count_of t) t.table.now

-- what stands at a place; past the end any proposal will do
abbrev pub filler : Proposal
filler = record { low = 0; high = 1; saving = 1; apart = lit< tt; some = lit≤ tt; limited = lit≤ tt }

abbrev pub at : List Proposal → ℕ → Proposal
at ps i = slice_index_or ps i filler

-- p comes before the pair of a and b, or after it
abbrev pub Lower : Proposal → ℕ → ℕ → Type 0
Lower p a b = (p.low < a) ⊎ ((p.low ≡ a) × (p.high < b))

abbrev pub Higher : Proposal → ℕ → ℕ → Type 0
Higher p a b = (a < p.low) ⊎ ((a ≡ p.low) × (b < p.high))

-- the one for a and b stands at i
pub record Stands (ps : List Proposal) (a b i : ℕ) : Type 0 where
  pub within : i < length ps
  pub here : joins a b (at ps i) ≡ true

-- none is for a and b, and one would stand at i
pub record Gap (ps : List Proposal) (a b i : ℕ) : Type 0 where
  pub within : i ≤ length ps
  pub before : (k : ℕ) → k < i → Lower (at ps k) a b
  pub after : (k : ℕ) → i ≤ k → k < length ps → Higher (at ps k) a b

-- t became u as p was put in
pub record Inserted (t : OpenTable) (p : Proposal) (u : OpenTable) : Type 0 where
  pub new : is_for p.low p.high (opened_in t) ≡ false
  pub room : count_of t < capacity_of t
  pub opened : opened_in u ≡ insert p (opened_in t)
  pub capacity : capacity_of u ≡ capacity_of t

-- why p was not put in
pub record NotInserted (t : OpenTable) (p : Proposal) (e : Refusal) : Type 0 where
  pub why : ((e ≡ found AlreadyOpen) × (is_for p.low p.high (opened_in t) ≡ true))
      ⊎ ((e ≡ found KeeperFull) × (is_for p.low p.high (opened_in t) ≡ false) × (count_of t ≡ capacity_of t))

abbrev pub Inserts : OpenTable → Proposal → Result (Unit {0}) Refusal → OpenTable → Type 0
Inserts t p r u = MatchResult r (λ _. Inserted t p u) (λ e. NotInserted t p e)

-- t became u as q, which was for the pair, was taken out
pub record Removed (t : OpenTable) (pair : Pair) (q : Proposal) (u : OpenTable) : Type 0 where
  pub was : first_of (joins pair.low pair.high) (opened_in t) ≡ Some q
  pub opened : opened_in u ≡ without pair.low pair.high (opened_in t)
  pub capacity : capacity_of u ≡ capacity_of t

abbrev pub Removes : OpenTable → Pair → Result Proposal Refusal → OpenTable → Type 0
Removes t pair r u = MatchResult r (λ q. Removed t pair q u) (λ e. (e ≡ found NotOpen) × (is_for pair.low pair.high (opened_in t) ≡ false))
