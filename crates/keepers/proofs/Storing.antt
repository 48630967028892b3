-- What opening and closing a proposal does to a store, and when a store is in order again.
use Rattle.std.proofs.Common.{◌≡◌, ℕ, ◌<◌, true, leb, List, Some, Ok, Err, filter, Result, sym, refl, ap, ◌∙◌, subst, arith}
use Rattle.std.proofs.lemmas.Bool.{lt-leb, cond-true, cond-false}
use Rattle.proposals.specs.declared.pairs.Pair.{Pair}
use Rattle.proposals.specs.declared.proposals.Proposal.{Proposal}
use Rattle.proposals.specs.declared.refusals.Refusal.{Refusal}
use Rattle.matching.specs.Lists.{first_of}
use Rattle.matching.specs.Canonical.{Ascending, joins, is_for}
use Rattle.matching.specs.Meanings.{Meaning, Lawful}
use Rattle.matching.proofs.Lists.{any_true, first_in}
use Rattle.keepers.specs.Tables.{capacity_of, opened_in, Removes}
use Rattle.choices.specs.Mates.{entry, mated}
use Rattle.choices.specs.Showing.{Shows}
use Rattle.keepers.specs.Meant.{meaning_of, InOrder, Closes}
use Rattle.keepers.specs.declared.tables.OpenTable.{OpenTable}
use Rattle.keepers.specs.declared.stores.Store.{Store}
use Rattle.choices.proofs.Showing.{shown}

first_for : (ps : List Proposal) (a b : ℕ) (q : Proposal) → first_of (joins a b) ps ≡ Some q → is_for a b ps ≡ true
first_for ps a b q e = let i = first_in (joins a b) ps q e in any_true (joins a b) ps q i.0 i.1

-- what a removal from the table means for the store
pub closes : (k : Store) (pair : Pair) (r : Result Proposal Refusal) (u : OpenTable) → InOrder k → pair.high < k.meters →
    (Ascending (opened_in k.table) → Removes k.table pair r u) → Closes k pair r (record { meters = k.meters; table = u; choice = k.choice })
closes k pair (Ok q) u ok lt f =
    let h = f ok.lawful.ascending in
    record {
      may =
          cond-false (leb k.meters pair.high) _ _ (lt-leb k.meters pair.high lt) ∙
          cond-true (is_for pair.low pair.high (opened_in k.table)) _ _ (first_for (opened_in k.table) pair.low pair.high q h.was);
      was = h.was;
      size = refl;
      capacity = h.capacity;
      opened = h.opened;
      choice = refl;
    }
closes k pair (Err e) u ok lt f =
    let h = f ok.lawful.ascending in
    cond-false (leb k.meters pair.high) _ _ (lt-leb k.meters pair.high lt) ∙
    cond-false (is_for pair.low pair.high (opened_in k.table)) _ _ h.1 ∙ ap (λ x. Some x) (sym h.0)

-- a store that holds what a lawful meaning says, and whose table of mates shows its choice, means that and is in order
module _
    (k : Store)
    (m : Meaning)
    (lawful : Lawful m)
    (size : k.meters ≡ m.size)
    (capacity : capacity_of k.table ≡ m.capacity)
    (opened : opened_in k.table ≡ m.opened)
    (shows : Shows (entry k.choice) m.chosen)
  where
    chosen : filter (mated (entry k.choice)) (opened_in k.table) ≡ m.chosen
    chosen =
        ap (filter (mated (entry k.choice))) opened ∙
        shown (entry k.choice) m.chosen shows m.opened lawful.ascending
        (record { among = lawful.maximal.among; in_order = lawful.in_order; choice = lawful.maximal.choice })
        (λ p i. omega (arith, lawful.inside p i, lawful.few))

    pub means : meaning_of k ≡ m
    means = λ i. record { size = size i; capacity = capacity i; opened = opened i; chosen = chosen i }

    pub stored : InOrder k × (meaning_of k ≡ m)
    stored = (record { lawful = subst Lawful (sym means) lawful; shows = subst (λ (C : List Proposal). Shows (entry k.choice) C) (sym chosen) shows }, means)
