-- What a keeper means, what always holds of it, what its questions answer, and what put and take do.
use Rattle.std.specs.Prelude.{◌≡◌, ℕ, ◌<◌, ◌≤◌, true, cond, ◌&&◌, List, [], length, Some, None, Option, ◌==◌, nat_le}
use Rattle.std.specs.Option.{option_map}
use Rattle.proposals.specs.declared.proposals.Proposal.{Proposal}
use Rattle.proposals.specs.declared.pairs.Pair.{Pair}
use Rattle.proposals.specs.declared.refusals.Refusal.{Refusal}
use Rattle.proposals.specs.declared.refusals.Reason.{Reason}
use Rattle.proposals.specs.declared.refusals.Reason.TheVariants.{MeterOutsideGroup, AlreadyOpen, KeeperFull, NotOpen}
use Rattle.proposals.specs.declared.refusals.Layer.TheVariants as layer
use Rattle.matching.specs.Lists.{◌∈◌, first_of}
use Rattle.matching.specs.Matching.{level, has, other, Maximal, kept, SameButAt}
use Rattle.matching.specs.Canonical.{Ascending, insert, joins, is_for, without, saving_in}

-- a keeper's meaning: how many meters the group has, how many proposals may be open,
-- which are open, and which of those are chosen; both lists by rising lower, then higher meter
pub record Meaning : Type 0 where
  pub size : ℕ
  pub capacity : ℕ
  pub opened : List Proposal
  pub chosen : List Proposal

-- the ratio of the ladder: each level begins at twice the saving at which the one below it begins
abbrev pub ratio : ℕ
ratio = 2

-- what holds of a keeper's meaning at all times
pub record Lawful (m : Meaning) : Type 0 where
  pub some : 2 ≤ m.size
  pub few : m.size ≤ 256
  pub limit : m.capacity ≤ 4096
  -- the open proposals are at most as many as the capacity, and all their meters are of the group
  pub room : length m.opened ≤ m.capacity
  pub inside : (p : Proposal) → p ∈ m.opened → p.high < m.size
  pub ascending : Ascending m.opened
  -- the chosen ones are open ones, in the same order: a maximal matching at each level
  pub in_order : Ascending m.chosen
  pub maximal : Maximal ratio m.opened m.chosen

-- a keeper with nothing open
abbrev pub bare : ℕ → ℕ → Meaning
bare size capacity = record { size = size; capacity = capacity; opened = []; chosen = [] }

-- the pairs that static combining keeps of the chosen ones
abbrev pub kept_of : Meaning → List Proposal
kept_of m = kept ratio m.chosen

-- the questions: how many are open; the saving of an open pair, or none; the meter chosen for a meter at a level, or none
abbrev pub open_count : Meaning → ℕ
open_count m = length m.opened

abbrev pub saving_of : Meaning → ℕ → ℕ → Option ℕ
saving_of m a b = saving_in m.opened a b

abbrev pub mate_in : ℕ → List Proposal → ℕ → ℕ → Option ℕ
mate_in r C v l = option_map (λ p. other p v) (first_of (λ p. (level r p == l) && has p v) C)

abbrev pub mate_of : Meaning → ℕ → ℕ → Option ℕ
mate_of m v l = mate_in ratio m.chosen v l

-- why put and take refuse, in the order in which the reasons are looked for
abbrev pub found : Reason → Refusal
found reason = record { reason = reason; layer = layer.Keeper }

abbrev pub put_refusal : Meaning → Proposal → Option Refusal
put_refusal m p =
    cond (nat_le m.size p.high) (Some (found MeterOutsideGroup))
    (cond (is_for p.low p.high m.opened) (Some (found AlreadyOpen))
    (cond (length m.opened == m.capacity) (Some (found KeeperFull)) None))

abbrev pub take_refusal : Meaning → Pair → Option Refusal
take_refusal m pair =
    cond (nat_le m.size pair.high) (Some (found MeterOutsideGroup))
    (cond (is_for pair.low pair.high m.opened) None (Some (found NotOpen)))

-- m became m': the open ones are now `opened`, and the choice is another at level l alone
pub record Became (m : Meaning) (opened : List Proposal) (l : ℕ) (m' : Meaning) : Type 0 where
  pub size : m'.size ≡ m.size
  pub capacity : m'.capacity ≡ m.capacity
  pub opens : m'.opened ≡ opened
  pub elsewhere : SameButAt ratio l m.chosen m'.chosen
  pub lawful : Lawful m'

-- what every accepted put does: p is open too
abbrev pub Put : Meaning → Proposal → Meaning → Type 0
Put m p m' = Became m (insert p m.opened) (level ratio p) m'

-- what every accepted take does: the proposal q that was open for the pair is gone
abbrev pub Take : Meaning → Pair → Meaning → Type 0
Take m pair m' =
    (q : Proposal) × (q ∈ m.opened) × (joins pair.low pair.high q ≡ true) ×
    Became m (without pair.low pair.high m.opened) (level ratio q) m'
