-- The patient keeper's calls: a store that was in order is in order again, and means what the rule says.
use Rattle.std.proofs.Common.{◌≡◌, ℕ, ◌<◌, Bool, true, false, not, List, Some, None, Option, sym, refl, ap, ◌∙◌, subst, inl, arith, MatchOption}
use Rattle.proposals.specs.declared.pairs.Pair.{Pair}
use Rattle.proposals.specs.declared.proposals.Proposal.{Proposal}
use Rattle.matching.specs.Lists.{◌∈◌, first_of}
use Rattle.matching.specs.Matching.{level}
use Rattle.matching.specs.Canonical.{Ascending, joins, without}
use Rattle.matching.specs.Meanings.{Meaning, Lawful, ratio, Put, Take}
use Rattle.matching.specs.Rules.{patient_put, patient_take, patient_loses, rejoins}
use Rattle.matching.proofs.Lists.{kept_by_in, first_in}
use Rattle.matching.proofs.Order.{in_insert}
use Rattle.matching.proofs.Patient.{patient_keeps}
use Rattle.keepers.specs.Tables.{capacity_of, opened_in}
use Rattle.choices.specs.Mates.{entry, mated, offered, joined_if_free, parted_if_mated, Holds}
use Rattle.choices.specs.Showing.{Shows}
use Rattle.keepers.specs.Meant.{meaning_of, InOrder, Opened, Closed, Rejoined, Joins}
use Rattle.choices.specs.declared.mates.Mates.{Mates}
use Rattle.keepers.specs.declared.stores.Store.{Store}
use Rattle.choices.proofs.Adding.{shows_adds}
use Rattle.keepers.proofs.PatientRule.{shows_rejoins, shows_parted, shows_still, chosen_one, chosen_none}
use Rattle.keepers.proofs.Storing.{stored}

-- the open proposals have meters below 256, and so have the chosen ones
few : (m : Meaning) → Lawful m → (p : Proposal) → p ∈ m.opened → p.high < 256
few m h p i = omega (arith, h.inside p i, h.few)

few_chosen : (m : Meaning) → Lawful m → (p : Proposal) → p ∈ m.chosen → p.high < 256
few_chosen m h p i = few m h p (h.maximal.among p i)

-- p was put into the table, and its meters were joined if they were free
module _
    (k k₁ : Store)
    (c : Mates)
    (p : Proposal)
    (d : Opened k p k₁)
    (holds : p.high < 256 → Holds c (joined_if_free (entry k₁.choice) p))
    (ok : InOrder k)
  where
    pub put_became : Put (meaning_of k) p (patient_put (meaning_of k) p)
    put_became = (patient_keeps (meaning_of k) ok.lawful).puts p d.may

    small : p.high < 256
    small = omega (arith, put_became.lawful.inside p (in_insert p (meaning_of k).opened p (inl refl)), put_became.lawful.few)

    shows_put : Shows (entry c) (patient_put (meaning_of k) p).chosen
    shows_put =
        shows_adds (entry k.choice) (entry c) (meaning_of k).chosen p ok.shows (few_chosen (meaning_of k) ok.lawful) small
        (subst (λ (x : Mates). (j u : ℕ) → j < 20 → u < 256 → entry c j u ≡ joined_if_free (entry x) p j u) d.choice (holds small))

    pub put_done : InOrder (record { meters = k₁.meters; table = k₁.table; choice = c }) × (meaning_of (record { meters = k₁.meters; table = k₁.table; choice = c }) ≡ patient_put (meaning_of k) p)
    put_done = stored (record { meters = k₁.meters; table = k₁.table; choice = c }) (patient_put (meaning_of k) p) put_became.lawful d.size d.capacity d.opened shows_put

-- a meter was joined to the first that offers
rejoined : (k k' : Store) (C opened : List Proposal) (v l : ℕ) → Shows (entry k.choice) C → ((p : Proposal) → p ∈ C → p.high < 256) →
    opened_in k.table ≡ opened → Ascending opened → ((p : Proposal) → p ∈ opened → p.high < 256) → Rejoined k v l k' →
    Shows (entry k'.choice) (rejoins ratio opened l v C) × ((p : Proposal) → p ∈ rejoins ratio opened l v C → p.high < 256)
rejoined k k' C opened v l s fewC is up small d =
    shows_rejoins (entry k.choice) (entry k'.choice) C opened l v s fewC up small (first_of offer opened) refl
    (into (first_of offer opened) (λ p e. small p (first_in offer opened p e).0) (subst (λ (ps : List Proposal). Joins k.choice (first_of offer ps) k'.choice) is d.choice))
  where
    offer : Proposal → Bool
    offer = offered (entry k.choice) l v

    into : (o : Option Proposal) → ((p : Proposal) → o ≡ Some p → p.high < 256) → Joins k.choice o k'.choice →
        MatchOption o ((j u : ℕ) → j < 20 → u < 256 → entry k'.choice j u ≡ entry k.choice j u)
        (λ p. (j u : ℕ) → j < 20 → u < 256 → entry k'.choice j u ≡ joined_if_free (entry k.choice) p j u)
    into None low e = λ j u hj hu. ap (λ m. entry m j u) e
    into (Some p) low e = e (low p refl)

-- the same at the meter and the level that the code names otherwise
pub rejoined_at : (k k' : Store) (v w l j : ℕ) → v ≡ w → l ≡ j → Rejoined k v l k' → Rejoined k w j k'
rejoined_at k k' v w l j e f d = subst (λ (x : ℕ). Rejoined k w x k') f (subst (λ (x : ℕ). Rejoined k x l k') e d)

-- q was taken out of the table, and its meters were parted if they were mates
module _
    (k k₁ : Store)
    (c : Mates)
    (pair : Pair)
    (q : Proposal)
    (r : Bool)
    (d : Closed k pair q k₁)
    (parts : q.high < 256 → (r ≡ mated (entry k₁.choice) q) × Holds c (parted_if_mated (entry k₁.choice) q))
    (ok : InOrder k)
  where
    pub take_became : Take (meaning_of k) pair (patient_take (meaning_of k) pair)
    take_became = (patient_keeps (meaning_of k) ok.lawful).takes pair d.may

    lawful : Lawful (patient_take (meaning_of k) pair)
    lawful = take_became.3.lawful

    small_taken : q.high < 256
    small_taken = few (meaning_of k) ok.lawful q (first_in (joins pair.low pair.high) (opened_in k.table) q d.was).0

    mates : r ≡ mated (entry k.choice) q
    mates = subst (λ (x : Mates). r ≡ mated (entry x) q) d.choice (parts small_taken).0

    holds : (j u : ℕ) → j < 20 → u < 256 → entry c j u ≡ parted_if_mated (entry k.choice) q j u
    holds = subst (λ (x : Mates). (j u : ℕ) → j < 20 → u < 256 → entry c j u ≡ parted_if_mated (entry x) q j u) d.choice (parts small_taken).1

    -- they were not: nothing else is chosen
    module _ (free : r ≡ false) where
      apart : mated (entry k.choice) q ≡ false
      apart = sym mates ∙ free

      shows_still_taken : Shows (entry c) (patient_take (meaning_of k) pair).chosen
      shows_still_taken =
          subst (λ (o : Option Proposal). Shows (entry c) (patient_loses ratio (patient_take (meaning_of k) pair).opened (meaning_of k).chosen o))
          (sym (chosen_none (entry k.choice) (opened_in k.table) ok.lawful.ascending pair.low pair.high q d.was apart))
          (shows_still (entry k.choice) (opened_in k.table) ok.lawful.ascending pair.low pair.high q d.was (entry c) (few (meaning_of k) ok.lawful) ok.shows holds apart)

      pub take_done : InOrder (record { meters = k₁.meters; table = k₁.table; choice = c }) × (meaning_of (record { meters = k₁.meters; table = k₁.table; choice = c }) ≡ patient_take (meaning_of k) pair)
      take_done = stored (record { meters = k₁.meters; table = k₁.table; choice = c }) (patient_take (meaning_of k) pair) lawful d.size d.capacity d.opened shows_still_taken

    -- they were: the lower one and then the higher one was joined anew
    module _
        (k₃ k₄ : Store)
        (first : Rejoined (record { meters = k₁.meters; table = k₁.table; choice = c }) q.low (level ratio q) k₃)
        (second : Rejoined k₃ q.high (level ratio q) k₄)
        (met : r ≡ true)
      where
        joined_then : mated (entry k.choice) q ≡ true
        joined_then = sym mates ∙ met

        few_opened : (p : Proposal) → p ∈ (patient_take (meaning_of k) pair).opened → p.high < 256
        few_opened = few (patient_take (meaning_of k) pair) lawful

        shows_rest : Shows (entry c) (without q.low q.high (meaning_of k).chosen)
        shows_rest =
            shows_parted (entry k.choice) (opened_in k.table) ok.lawful.ascending pair.low pair.high q d.was (entry c)
            (few (meaning_of k) ok.lawful) ok.shows holds joined_then

        few_rest : (p : Proposal) → p ∈ without q.low q.high (meaning_of k).chosen → p.high < 256
        few_rest p m = few_chosen (meaning_of k) ok.lawful p (kept_by_in (λ z. not (joins q.low q.high z)) (meaning_of k).chosen p m).0

        -- the choice after the lower one was joined
        half : List Proposal
        half = rejoins ratio (patient_take (meaning_of k) pair).opened (level ratio q) q.low (without q.low q.high (meaning_of k).chosen)

        once : Shows (entry k₃.choice) half × ((p : Proposal) → p ∈ half → p.high < 256)
        unfolding half
        once =
            rejoined (record { meters = k₁.meters; table = k₁.table; choice = c }) k₃ (without q.low q.high (meaning_of k).chosen)
            (patient_take (meaning_of k) pair).opened q.low (level ratio q) shows_rest few_rest d.opened lawful.ascending few_opened first

        twice : Shows (entry k₄.choice) (rejoins ratio (patient_take (meaning_of k) pair).opened (level ratio q) q.high half)
        twice =
            (rejoined k₃ k₄ half (patient_take (meaning_of k) pair).opened q.high (level ratio q) once.0 once.1
            (ap opened_in first.table ∙ d.opened) lawful.ascending few_opened second).0

        shows_taken : Shows (entry k₄.choice) (patient_take (meaning_of k) pair).chosen
        unfolding half
        shows_taken =
            subst (λ (o : Option Proposal). Shows (entry k₄.choice) (patient_loses ratio (patient_take (meaning_of k) pair).opened (meaning_of k).chosen o))
            (sym (chosen_one (entry k.choice) (opened_in k.table) ok.lawful.ascending pair.low pair.high q d.was joined_then).1) twice

        same_table : k₄.table ≡ k₁.table
        same_table = second.table ∙ first.table

        pub retake_done : InOrder k₄ × (meaning_of k₄ ≡ patient_take (meaning_of k) pair)
        retake_done = stored k₄ (patient_take (meaning_of k) pair) lawful (second.size ∙ first.size ∙ d.size) (ap capacity_of same_table ∙ d.capacity) (ap opened_in same_table ∙ d.opened) shows_taken
