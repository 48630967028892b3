-- Over a copy of a choice, the heights are those of the pairs that static combining keeps of that choice.
use Rattle.std.proofs.Common.{◌≡◌, ℕ, zero, suc, ◌+◌, ◌-◌, ◌<◌, ◌≤◌, Bool, true, false, eqb, ◌≢◌, ◌⊎◌, List, Some, None, filter, Option, sym, refl, ap, ◌∙◌, subst, inl, inr, ⊎_elim, arith}
use Rattle.std.specs.Option.{option_map}
use Rattle.std.proofs.lemmas.Bool.{cases_Bool, cases_eq, cases_lt, both_ways, eqb-true, eq-eqb, and_from, cond-true, cond-false}
use Rattle.std.proofs.lemmas.Bool.Decides.{nat_tests}
use Rattle.proposals.specs.declared.proposals.Proposal.{Proposal}
use Rattle.proposals.proofs.Ladder.{level_bound}
use Rattle.matching.specs.Lists.{◌∈◌, first_of}
use Rattle.matching.specs.Matching.{level, has, other, shares, Pairing, Settled, kept}
use Rattle.matching.specs.Canonical.{joins, partner_in}
use Rattle.matching.specs.Meanings.{Meaning, Lawful, ratio, mate_of}
use Rattle.matching.proofs.Lists.{none_some, kept_by_in, in_kept_by, pairwise_kept_by, pairwise_weaker, pairwise_two, first_only, first_nothing}
use Rattle.matching.proofs.Pairs.{has_cases, has_low, has_high, other_high, share_at, share_sym, shares_by, one_pair}
use Rattle.matching.proofs.Order.{joins_self, one_open, one_answer, picked_ascends}
use Rattle.matching.proofs.Telling.{telling}
use Rattle.choices.specs.Mates.{entry, mate_shown}
use Rattle.choices.proofs.Showing.{same_meters}
use Rattle.settling.specs.declared.kept_pairs.KeptPairs.{KeptPairs}
use Rattle.settling.specs.Kept.{height_of, partner_shown, Sound, Copies}
use Rattle.settling.proofs.Tables.{some_shown, shown_some}

-- the height of the pair's lower meter is that of the pair's level
abbrev pub reaches : KeptPairs → Proposal → Bool
reaches k p = eqb (height_of k p.low) (level ratio p + 1)

-- the chosen pairs at their height
abbrev pub held : KeptPairs → List Proposal → List Proposal
held k C = filter (reaches k) C

-- the partner, where the height is known
partner_free : (k : KeptPairs) (v : ℕ) → height_of k v ≡ 0 → partner_shown k v ≡ None
partner_free k v e = cond-true (eqb (height_of k v) 0) _ _ (eq-eqb (height_of k v) 0 e)

partner_at : (k : KeptPairs) (v j : ℕ) → height_of k v ≡ j + 1 → partner_shown k v ≡ mate_shown (entry k.choice) v j
partner_at k v j e =
    let d : height_of k v - 1 ≡ j = omega arith in
    let f : eqb (height_of k v) 0 ≡ false = grind (arith, nat_tests) in
    cond-false (eqb (height_of k v) 0) _ _ f ∙ ap (mate_shown (entry k.choice) v) d

module _ (k : KeptPairs) (C : List Proposal) (h : Copies k C) where
  low_inside : (p : Proposal) → p ∈ C → p.low < 256
  low_inside p m = omega (arith, p.apart, h.inside p m)

  -- both meters of such a pair have its height
  both_high : (p : Proposal) (v : ℕ) → p ∈ held k C → has p v ≡ true → height_of k v ≡ level ratio p + 1
  both_high p v m x =
      let i = kept_by_in (reaches k) C p m in
      let low : height_of k p.low ≡ level ratio p + 1 = eqb-true (height_of k p.low) (level ratio p + 1) i.1 in
      let d = h.sound.paired p.low (level ratio p) (low_inside p i.0) low in
      elim (has_cases p v x) [
        | inl e ↦ ap (height_of k) (sym e) ∙ low
        | inr e ↦ ap (height_of k) (sym e ∙ sym (h.shows.low p i.0)) ∙ d.level
      ]

  -- a meter of the height j + 1 is in such a pair of the level j
  holder : (v j : ℕ) → v < 256 → height_of k v ≡ j + 1 →
      (q : Proposal) × (q ∈ held k C) × (level ratio q ≡ j) × (has q v ≡ true) × (other q v ≡ entry k.choice j v) × (entry k.choice j v ≢ v) × (j < 20)
  holder v j hv e =
      let d = h.sound.paired v j hv e in
      let w = h.shows.only j v d.low hv d.mated in
      let q : Proposal = w.0 in
      let low : height_of k q.low ≡ level ratio q + 1 =
      elim (has_cases q v w.3) [
        | inl x ↦ ap (height_of k) x ∙ (e ∙ ap (λ i. i + 1) (sym w.2))
        | inr x ↦
            let o : q.low ≡ entry k.choice j v = sym (other_high q) ∙ (ap (other q) x ∙ w.4) in
            ap (height_of k) o ∙ (d.level ∙ ap (λ i. i + 1) (sym w.2))
      ]
      in
      (q, in_kept_by (reaches k) C q w.1 (eq-eqb (height_of k q.low) (level ratio q + 1) low), w.2, w.3, w.4, d.mated, d.low)

  of_choice : (p : Proposal) → p ∈ held k C → p ∈ C
  of_choice p m = (kept_by_in (reaches k) C p m).0

  -- two chosen pairs of one level that share a meter are one
  same_pair : (p q : Proposal) → p ∈ C → q ∈ C → level ratio p ≡ level ratio q → shares p q ≡ true → p ≡ q
  same_pair p q m n e s =
      elim (pairwise_two (λ p q. level ratio p ≡ level ratio q → shares p q ≡ false) C p q h.choice m n) [
        | inl x ↦ x
        | inr (inl x) ↦ absurd (both_ways (shares p q) (x e) s)
        | inr (inr x) ↦ absurd (both_ways (shares q p) (x (sym e)) (share_sym p q s))
      ]

  -- a chosen pair with a meter of at least its height is held, or shares that meter with a held one of a higher level
  reached : (p : Proposal) (v : ℕ) → p ∈ C → has p v ≡ true → v < 256 → level ratio p < height_of k v →
      (p ∈ held k C) ⊎ ((q : Proposal) × (q ∈ held k C) × (level ratio p < level ratio q) × (shares p q ≡ true))
  reached p v m x hv lt =
      let e : height_of k v ≡ (height_of k v - 1) + 1 = omega arith in
      let w = holder v (height_of k v - 1) hv e in
      let q : Proposal = w.0 in
      let s = shares_by p q v x w.3 in
      ⊎_elim
      (λ (z : level ratio p ≡ level ratio q).
      inl (subst (λ (y : Proposal). y ∈ held k C) (sym (same_pair p q m (of_choice q w.1) z s)) w.1))
      (λ z. let more : level ratio p < level ratio q = omega (arith, w.2) in inr (q, w.1, more, s))
      (cases_eq (level ratio p) (level ratio q))

  held_pairing : Pairing (held k C)
  held_pairing =
      pairwise_weaker (λ p q. level ratio p ≡ level ratio q → shares p q ≡ false) (λ p q. shares p q ≡ false) (held k C)
      (λ p q m n f.
      elim (cases_Bool (shares p q)) [
        | inl s ↦
            let w = share_at p q s in
            f (omega (arith, both_high p w.0 m w.1, both_high q w.0 n w.2))
        | inr s ↦ s
      ])
      (pairwise_kept_by (λ p q. level ratio p ≡ level ratio q → shares p q ≡ false) (reaches k) C h.choice)

  -- the chosen pairs at their height are what static combining keeps
  pub held_settled : Settled ratio C (held k C)
  held_settled =
      record {
        chosen = of_choice;
        pairing = held_pairing;
        every = λ p m.
            let ne : entry k.choice (level ratio p) p.low ≢ p.low = λ z. omega (arith, h.shows.low p m, p.apart) in
            elim (h.sound.settled (level ratio p) p.low (level_bound ratio p.saving) (low_inside p m) ne) [
              | inl lt ↦ reached p p.low m (has_low p) (low_inside p m) lt
              | inr lt ↦ reached p p.high m (has_high p) (h.inside p m) (omega (arith, lt, ap (height_of k) (h.shows.low p m)))
            ];
      }

  pub held_is_kept : held k C ≡ kept ratio C
  held_is_kept = (one_answer ratio C (held k C) h.choice held_settled).list h.in_order (picked_ascends (reaches k) C h.in_order)

  -- a chosen pair is kept if and only if its higher meter is the partner of its lower one
  pub kept_partner : (p : Proposal) → p ∈ kept ratio C → partner_shown k p.low ≡ Some p.high
  kept_partner p m =
      let n = subst (λ (K : List Proposal). p ∈ K) (sym held_is_kept) m in
      let i = of_choice p n in
      let l : ℕ = level ratio p in
      let e = h.shows.low p i in
      partner_at k p.low l (both_high p p.low n (has_low p))
      ∙ (some_shown (entry k.choice) p.low l (low_inside p i) (level_bound ratio p.saving) (λ z. omega (arith, e, p.apart))
      ∙ ap (λ v. Some v) e)

  pub partner_kept : (p : Proposal) → p ∈ C → partner_shown k p.low ≡ Some p.high → p ∈ kept ratio C
  partner_kept p m e = go (height_of k p.low) refl
    where
      go : (n : ℕ) → height_of k p.low ≡ n → p ∈ kept ratio C
      go zero f = absurd (none_some (partner_free k p.low f) e)
      go (suc j) f =
          let f' : height_of k p.low ≡ j + 1 = omega arith in
          let w = holder p.low j (low_inside p m) f' in
          let q : Proposal = w.0 in
          let mate = (shown_some (entry k.choice) p.low j p.high (sym (partner_at k p.low j f') ∙ e)).2 in
          let o : other q p.low ≡ p.high = w.4 ∙ sym mate in
          let x = same_meters q p w.3 o in
          let for : joins p.low p.high q ≡ true =
          and_from (eqb q.low p.low) (eqb q.high p.high) (eq-eqb q.low p.low x.0) (eq-eqb q.high p.high x.1)
          in
          let is : q ≡ p = one_open C q p p.low p.high h.in_order (of_choice q w.1) m for (joins_self p) in
          subst (λ (K : List Proposal). p ∈ K) held_is_kept (subst (λ (y : Proposal). y ∈ held k C) is w.1)

  -- the partner that is answered is that of the kept pairs
  pub partner_is : (v : ℕ) → partner_shown k v ≡ option_map (λ (x : ℕ × ℕ). x.0) (partner_in (kept ratio C) v)
  partner_is v =
      subst (λ (K : List Proposal). partner_shown k v ≡ option_map (λ (x : ℕ × ℕ). x.0) (partner_in K v)) held_is_kept
      (⊎_elim (λ hv. within hv (height_of k v) refl) beyond (cases_lt v 256))
    where
      answer : (o : Option Proposal) → first_of (λ p. has p v) (held k C) ≡ o →
          option_map (λ (x : ℕ × ℕ). x.0) (partner_in (held k C) v) ≡ option_map (λ p. other p v) o
      answer None e = ap (λ (o : Option Proposal). option_map (λ (x : ℕ × ℕ). x.0) (option_map (λ p. (other p v, p.saving)) o)) e
      answer (Some q) e = ap (λ (o : Option Proposal). option_map (λ (x : ℕ × ℕ). x.0) (option_map (λ p. (other p v, p.saving)) o)) e

      within : v < 256 → (n : ℕ) → height_of k v ≡ n → partner_shown k v ≡ option_map (λ (x : ℕ × ℕ). x.0) (partner_in (held k C) v)
      within hv zero e =
          partner_free k v e
          ∙ sym (answer None (first_nothing (λ p. has p v) (held k C) (λ p m x. omega (arith, both_high p v m x))))
      within hv (suc j) e =
          let f : height_of k v ≡ j + 1 = omega arith in
          let w = holder v j hv f in
          let q : Proposal = w.0 in
          let first = first_only (λ p. has p v) (held k C) q w.1 w.3 (λ p m x. one_pair (held k C) p q v held_pairing m w.1 x w.3) in
          partner_at k v j f
          ∙ (some_shown (entry k.choice) v j hv w.6 w.5
          ∙ (ap (λ u. Some u) (sym w.4) ∙ sym (answer (Some q) first)))

      outside : (p : Proposal) → p ∈ C → has p v ≡ true → 256 ≤ v → ⊥
      outside p m x hv =
          elim (has_cases p v x) [
            | inl e ↦ omega (arith, low_inside p m)
            | inr e ↦ omega (arith, h.inside p m)
          ]

      beyond : 256 ≤ v → partner_shown k v ≡ option_map (λ (x : ℕ × ℕ). x.0) (partner_in (held k C) v)
      beyond hv =
          let none : partner_shown k v ≡ None = grind (arith, nat_tests) in
          none ∙ sym (answer None (first_nothing (λ p. has p v) (held k C) (λ p m x. outside p (of_choice p m) x hv)))

-- a sound copy that answers as a keeper does is one of the keeper's choice
pub copies : (m : Meaning) → Lawful m → (k : KeptPairs) → Sound k →
    ((v l : ℕ) → v < 256 → l < 20 → mate_shown (entry k.choice) v l ≡ mate_of m v l) → Copies k m.chosen
copies m h k o same =
    let t = telling m h in
    let inside : (p : Proposal) → p ∈ m.chosen → p.high < 256 = λ p i. omega (arith, h.inside p (h.maximal.among p i), h.few) in
    let mate : (p : Proposal) (v w : ℕ) → v < 256 → mate_of m v (level ratio p) ≡ Some w → entry k.choice (level ratio p) v ≡ w =
    λ p v w hv e. sym (shown_some (entry k.choice) v (level ratio p) w (same v (level ratio p) hv (level_bound ratio p.saving) ∙ e)).2
    in
    record {
      choice = h.maximal.choice;
      in_order = h.in_order;
      inside = inside;
      shows = record {
        low = λ p i. mate p p.low p.high (omega (arith, p.apart, inside p i)) (t.low p i);
        high = λ p i. mate p p.high p.low (inside p i) (t.high p i);
        only = λ l v hl hv ne.
            t.mates v l (entry k.choice l v) (sym (same v l hv hl) ∙ some_shown (entry k.choice) v l hv hl ne);
      };
      sound = o;
    }

-- what is shown of a meter is its partner in what static combining keeps
pub shown_is_kept : (k : KeptPairs) (v : ℕ) (r : Option ℕ) → r ≡ partner_shown k v → (C : List Proposal) → Copies k C →
    r ≡ option_map (λ (x : ℕ × ℕ). x.0) (partner_in (kept ratio C) v)
shown_is_kept k v r is C h = is ∙ partner_is k C h v
