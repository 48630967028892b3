-- The ordered keeper's calls: a store that was in order is in order again, and means what the rule says.
use Rattle.std.proofs.Common.{◌≡◌, ℕ, ◌<◌, List, sym, refl, ap, ◌∙◌, subst, arith}
use Rattle.proposals.specs.declared.pairs.Pair.{Pair}
use Rattle.proposals.specs.declared.proposals.Proposal.{Proposal}
use Rattle.proposals.proofs.Ladder.{level_bound}
use Rattle.matching.specs.Matching.{level, SameButAt}
use Rattle.matching.specs.Canonical.{joins}
use Rattle.matching.specs.Meanings.{Meaning, Lawful, ratio, Put, Take}
use Rattle.matching.specs.Rules.{ordered, ordered_put, ordered_take, ByOrder}
use Rattle.matching.proofs.Lists.{first_in}
use Rattle.matching.proofs.Order.{one_open}
use Rattle.matching.proofs.Ordered.{ordered_keeps}
use Rattle.choices.specs.Mates.{entry}
use Rattle.choices.specs.Showing.{Shows, Small, chosen_in_turn, elsewhere}
use Rattle.choices.proofs.Clearing.{shows_alike}
use Rattle.keepers.specs.Tables.{capacity_of, opened_in}
use Rattle.keepers.specs.Meant.{meaning_of, ChosenInOrder, Opened, Closed, Rechosen}
use Rattle.choices.specs.declared.mates.Mates.{Mates}
use Rattle.keepers.specs.declared.stores.Store.{Store}
use Rattle.keepers.proofs.OrderedRule.{rechosen_is}
use Rattle.keepers.proofs.Storing.{stored}

small : (m : Meaning) → Lawful m → Small m.opened
small m h p i = omega (arith, h.inside p i, h.few)

-- k₁ holds the open proposals of a meaning m' that the ordered rule gives, and showed the choice of k; k₂ has chosen anew at the level l
module _
    (k k₁ k₂ : Store)
    (l : ℕ)
    (m' : Meaning)
    (ok : ChosenInOrder k)
    (lawful : Lawful m')
    (by : m'.chosen ≡ ordered ratio m'.opened)
    (size : k₁.meters ≡ m'.size)
    (capacity : capacity_of k₁.table ≡ m'.capacity)
    (opened : opened_in k₁.table ≡ m'.opened)
    (choice : k₁.choice ≡ k.choice)
    (others : SameButAt ratio l (meaning_of k).chosen m'.chosen)
    (low : l < 20)
    (anew : Rechosen k₁ l k₂)
  where
    shows : Shows (entry k₂.choice) m'.chosen
    shows =
        subst (Shows (entry k₂.choice)) (sym by)
        (shows_alike (entry k₂.choice) _ (ordered ratio m'.opened)
        (subst (λ (ps : List Proposal). Shows (entry k₂.choice) (chosen_in_turn l (elsewhere l (meaning_of k).chosen) ps)) opened
        (anew.choice low (meaning_of k).chosen
        (subst (λ (x : Mates). Shows (entry x) (meaning_of k).chosen) (sym choice) ok.order.shows)
        (λ p i. small (meaning_of k) ok.order.lawful p (ok.order.lawful.maximal.among p i))
        (subst Small (sym opened) (small m' lawful))))
        (rechosen_is l (meaning_of k).chosen m'.opened (subst (λ (D : List Proposal). SameButAt ratio l (meaning_of k).chosen D) by others)))

    pub anew_done : ChosenInOrder k₂ × (meaning_of k₂ ≡ m')
    anew_done =
        let s = stored k₂ m' lawful (anew.size ∙ size) (ap capacity_of anew.table ∙ capacity) (ap opened_in anew.table ∙ opened) shows in
        (record { order = s.0; rule = subst ByOrder (sym s.1) by }, s.1)

-- p was put into the table
module _ (k k₁ k₂ : Store) (p : Proposal) (l : ℕ) (ok : ChosenInOrder k) (d : Opened k p k₁) (at : l ≡ level ratio p) (anew : Rechosen k₁ l k₂) where
  pub put_became : Put (meaning_of k) p (ordered_put (meaning_of k) p)
  put_became = (ordered_keeps (meaning_of k) ok.order.lawful ok.rule).puts p d.may

  elsewhere_put : SameButAt ratio l (meaning_of k).chosen (ordered_put (meaning_of k) p).chosen
  elsewhere_put = subst (λ (j : ℕ). SameButAt ratio j (meaning_of k).chosen (ordered_put (meaning_of k) p).chosen) (sym at) put_became.elsewhere

  low_put : l < 20
  low_put = subst (λ (j : ℕ). j < 20) (sym at) (level_bound ratio p.saving)

  pub put_done : ChosenInOrder k₂ × (meaning_of k₂ ≡ ordered_put (meaning_of k) p)
  put_done = anew_done k k₁ k₂ l (ordered_put (meaning_of k) p) ok put_became.lawful refl d.size d.capacity d.opened d.choice elsewhere_put low_put anew

-- q was taken out of the table
module _ (k k₁ k₂ : Store) (pair : Pair) (q : Proposal) (l : ℕ) (ok : ChosenInOrder k) (d : Closed k pair q k₁) (at : l ≡ level ratio q) (anew : Rechosen k₁ l k₂) where
  pub take_became : Take (meaning_of k) pair (ordered_take (meaning_of k) pair)
  take_became = (ordered_keeps (meaning_of k) ok.order.lawful ok.rule).takes pair d.may

  -- it is the one that was open for the pair
  same : take_became.0 ≡ q
  same =
      let i = first_in (joins pair.low pair.high) (opened_in k.table) q d.was in
      one_open (opened_in k.table) take_became.0 q pair.low pair.high ok.order.lawful.ascending take_became.1 i.0 take_became.2 i.1

  elsewhere_take : SameButAt ratio l (meaning_of k).chosen (ordered_take (meaning_of k) pair).chosen
  elsewhere_take =
      subst (λ (j : ℕ). SameButAt ratio j (meaning_of k).chosen (ordered_take (meaning_of k) pair).chosen) (ap (level ratio) same ∙ sym at) take_became.3.elsewhere

  low_take : l < 20
  low_take = subst (λ (j : ℕ). j < 20) (sym at) (level_bound ratio q.saving)

  pub take_done : ChosenInOrder k₂ × (meaning_of k₂ ≡ ordered_take (meaning_of k) pair)
  take_done = anew_done k k₁ k₂ l (ordered_take (meaning_of k) pair) ok take_became.3.lawful refl d.size d.capacity d.opened d.choice elsewhere_take low_take anew
