-- What a store of a lent table and a table of mates means, when the two are in order, and what its edits do.
use Rattle.std.specs.Prelude.{◌≡◌, ℕ, ◌<◌, List, Some, None, filter, Option, Result, MatchResult}
use Rattle.std.specs.Option as options
use Rattle.proposals.specs.declared.pairs.Pair.{Pair}
use Rattle.proposals.specs.declared.proposals.Proposal.{Proposal}
use Rattle.proposals.specs.declared.refusals.Refusal.{Refusal}
use Rattle.matching.specs.Lists.{first_of}
use Rattle.matching.specs.Canonical.{insert, joins, without}
use Rattle.matching.specs.Meanings.{Meaning, Lawful, put_refusal, take_refusal}
use Rattle.keepers.specs.Tables.{capacity_of, opened_in}
use Rattle.matching.specs.Rules.{ByOrder}
use Rattle.choices.specs.Showing.{Shows, Small, chosen_in_turn, elsewhere}
use Rattle.choices.specs.Mates.{entry, mated, offered, joined_if_free, Holds}
use Rattle.keepers.specs.declared.tables.OpenTable.{OpenTable}
use Rattle.choices.specs.declared.mates.Mates.{Mates}
use Rattle.keepers.specs.declared.stores.Store.{Store}

-- the open proposals are those of the lent table, and those whose meters are mates at their level are chosen
abbrev pub meant : ℕ → OpenTable → Mates → Meaning
meant meters t m =
    record { size = meters; capacity = capacity_of t; opened = opened_in t; chosen = filter (mated (entry m)) (opened_in t) }

abbrev pub meaning_of : Store → Meaning
meaning_of k = meant k.meters k.table k.choice

-- the store means what a keeper means, and its table of mates shows its choice
pub record InOrder (k : Store) : Type 0 where
  pub lawful : Lawful (meaning_of k)
  pub shows : Shows (entry k.choice) (meaning_of k).chosen

-- k became k' but for the choice: p was put in, for which there was no reason to refuse
pub record Opened (k : Store) (p : Proposal) (k' : Store) : Type 0 where
  pub may : put_refusal (meaning_of k) p ≡ None
  pub size : k'.meters ≡ k.meters
  pub capacity : capacity_of k'.table ≡ capacity_of k.table
  pub opened : opened_in k'.table ≡ insert p (opened_in k.table)
  pub choice : k'.choice ≡ k.choice

abbrev pub Opens : Store → Proposal → Result (Unit {0}) Refusal → Store → Type 0
Opens k p r k' = MatchResult r (λ _. Opened k p k') (λ e. put_refusal (meaning_of k) p ≡ Some e)

-- k became k' but for the choice: q, which was open for the pair, was taken out
pub record Closed (k : Store) (pair : Pair) (q : Proposal) (k' : Store) : Type 0 where
  pub may : take_refusal (meaning_of k) pair ≡ None
  pub was : first_of (joins pair.low pair.high) (opened_in k.table) ≡ Some q
  pub size : k'.meters ≡ k.meters
  pub capacity : capacity_of k'.table ≡ capacity_of k.table
  pub opened : opened_in k'.table ≡ without pair.low pair.high (opened_in k.table)
  pub choice : k'.choice ≡ k.choice

abbrev pub Closes : Store → Pair → Result Proposal Refusal → Store → Type 0
Closes k pair r k' = MatchResult r (λ q. Closed k pair q k') (λ e. take_refusal (meaning_of k) pair ≡ Some e)

-- m became m' as the meters of a proposal, if there is one, were joined
abbrev pub Joins : Mates → Option Proposal → Mates → Type 0
Joins m o m' = options.MatchOption o (m' ≡ m) (λ p. p.high < 256 → Holds m' (joined_if_free (entry m) p))

-- k became k' as the meter v was joined at the level l to the first meter that offers, if there is one
pub record Rejoined (k : Store) (v l : ℕ) (k' : Store) : Type 0 where
  pub size : k'.meters ≡ k.meters
  pub table : k'.table ≡ k.table
  pub choice : Joins k.choice (first_of (offered (entry k.choice) l v) (opened_in k.table)) k'.choice

-- k became k' as the level l was cleared, and then chosen anew in the order of the table
pub record Rechosen (k : Store) (l : ℕ) (k' : Store) : Type 0 where
  pub size : k'.meters ≡ k.meters
  pub table : k'.table ≡ k.table
  pub choice : l < 20 → (C : List Proposal) → Shows (entry k.choice) C → Small C → Small (opened_in k.table) →
      Shows (entry k'.choice) (chosen_in_turn l (elsewhere l C) (opened_in k.table))

-- the store is in order, and its choice is what the ordered rule makes of its open proposals
pub record ChosenInOrder (k : Store) : Type 0 where
  pub order : InOrder k
  pub rule : ByOrder (meaning_of k)
