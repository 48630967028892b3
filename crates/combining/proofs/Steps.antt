-- Each step of combining.
use Rattle.std.proofs.Common.{◌≡◌, ℕ, ◌+◌, ◌<◌, ◌≤◌, Bool, true, false, cond, ◌&&◌, eqb, ◌⊎◌, List, [], ◌∷◌, length, get_or, set, Some, sym, refl, ap, ◌∙◌, subst, inl, inr, arith, length-set, get_or-set_other, get_or-set_same}
use Rattle.std.proofs.lemmas.List.FromFn.{fill_by_all}
use Rattle.std.proofs.lemmas.Bool.{cases_Bool, cases_eq, eqb-true, eqb-false}
use Rattle.proposals.specs.declared.proposals.Proposal.{Proposal}
use Rattle.proposals.proofs.Ladder.{level_bound}
use Rattle.matching.specs.Lists.{◌∈◌}
use Rattle.matching.specs.Matching.{level, levels, has, other, shares, Choice, Settled}
use Rattle.matching.specs.Meanings.{Meaning, Lawful, ratio, kept_of, mate_of}
use Rattle.matching.proofs.Answer.{kept_alike}
use Rattle.matching.proofs.Kept.{InTheWay, combining}
use Rattle.matching.proofs.Pairs.{has_cases, has_low, has_high, other_low, other_high, shares_by, share_at, one_chosen}
use Rattle.matching.proofs.Telling.{telling}
use Rattle.combining.specs.Partners.{partner_or, partners}
use Rattle.combining.specs.Steps.{KeptTo, Shows, Reached, DownTo, with_pair}
use Rattle.combining.proofs.Partners.{partner_some, in_no_pair, partner_in_first, partner_in_rest, same_partner}

-- a further pair stands in the way too
way_more : (K : List Proposal) (p q : Proposal) → (p ∈ K) ⊎ InTheWay ratio K p → (p ∈ (q ∷ K)) ⊎ InTheWay ratio (q ∷ K) p
way_more K p q (inl m) = inl (inr m)
way_more K p q (inr w) = inr (w.0, inr w.1, w.2, w.3)

module _ (C : List Proposal) (l k : ℕ) (K : List Proposal) (g : KeptTo C l k K) where
  -- the pairs of the next lower meter, each of them kept or with one in its way
  next : ((p : Proposal) → p ∈ C → level ratio p ≡ l → p.low ≡ k → (p ∈ K) ⊎ InTheWay ratio K p) → KeptTo C l (k + 1) K
  next h =
      record {
        chosen = g.chosen;
        floor = g.floor;
        pairing = g.pairing;
        every = λ p m d. elim d [
          | inl a ↦ g.every p m (inl a)
          | inr a ↦ elim (cases_eq p.low k) [
            | inl e ↦ h p m a.0 e
            | inr e ↦ g.every p m (inr (a.0, omega arith))
          ]
        ];
      }

  module _ (choice : Choice ratio C) (p : Proposal) (m : p ∈ C) (at : level ratio p ≡ l) where
    -- a pair of level l whose meters are both free is kept
    added : partner_or K p.low ≡ p.low → partner_or K p.high ≡ p.high → KeptTo C l k (p ∷ K)
    added a b =
        record {
          chosen = λ q n. elim n [ inl e ↦ subst (λ (x : Proposal). x ∈ C) (sym e) m | inr n ↦ g.chosen q n ];
          floor = λ q n. elim n [ inl e ↦ omega (arith, ap (level ratio) e) | inr n ↦ g.floor q n ];
          pairing = (apart, g.pairing);
          every = λ q n d. way_more K q p (g.every q n d);
        }
      where
        meets : (q : Proposal) → q ∈ K → (v : ℕ) → has p v ≡ true → has q v ≡ true → ⊥
        meets q n v x y =
            elim (has_cases p v x) [
              | inl e ↦ in_no_pair K q p.low g.pairing a n (ap (has q) e ∙ y)
              | inr e ↦ in_no_pair K q p.high g.pairing b n (ap (has q) e ∙ y)
            ]

        apart : (q : Proposal) → q ∈ K → shares p q ≡ false
        apart q n =
            elim (cases_Bool (shares p q)) [
              | inl e ↦ let s = share_at p q e in absurd (meets q n s.0 s.1 s.2)
              | inr e ↦ e
            ]

    -- a pair of level l with a meter that is not free
    blocked : (v : ℕ) → has p v ≡ true → (partner_or K v ≡ v → ⊥) → (p ∈ K) ⊎ InTheWay ratio K p
    blocked v x ne =
        let w = partner_some K v ne in
        elim (cases_eq (level ratio w.0) l) [
          | inl e ↦
              let same = one_chosen ratio C w.0 p v choice (g.chosen w.0 w.1) m (e ∙ sym at) w.2 x in
              inl (subst (λ (y : Proposal). y ∈ K) same w.1)
          | inr e ↦ inr (w.0, w.1, omega (arith, g.floor w.0 w.1), shares_by p w.0 v x w.2)
        ]

-- a meter and its mate above it are the lower and the higher meter of their pair
pub mates_in_order : (p : Proposal) (v w : ℕ) → has p v ≡ true → other p v ≡ w → v < w → (p.low ≡ v) × (p.high ≡ w)
mates_in_order p v w h e lt =
    elim (has_cases p v h) [
      | inl x ↦ (x, sym (other_low p) ∙ ap (other p) x ∙ e)
      | inr x ↦ absurd (omega (arith, p.apart, other_high p, ap (other p) x))
    ]

-- the row with one more pair
module _ (n : ℕ) (K : List Proposal) (p : Proposal) (row : List ℕ) (lt : p.high < n) (le : n ≤ length row) (s : Shows n K row) where
  pair_set : List ℕ
  pair_set = set (set row p.low p.high) p.high p.low

  at_high : get_or pair_set p.high 0 ≡ partner_or (p ∷ K) p.high
  unfolding pair_set
  at_high =
      get_or-set_same (set row p.low p.high) p.high p.low 0 (simp length-set (omega arith)) ∙
      sym (partner_in_first K p p.high (has_high p) ∙ other_high p)

  at_low : get_or pair_set p.low 0 ≡ partner_or (p ∷ K) p.low
  unfolding pair_set
  at_low =
      get_or-set_other (set row p.low p.high) p.high p.low p.low 0 (λ e. omega (arith, p.apart)) ∙
      get_or-set_same row p.low p.high 0 (omega (arith, p.apart)) ∙
      sym (partner_in_first K p p.low (has_low p) ∙ other_low p)

  elsewhere : (v : ℕ) → v < n → (v ≡ p.low → ⊥) → (v ≡ p.high → ⊥) → get_or pair_set v 0 ≡ partner_or (p ∷ K) v
  unfolding pair_set
  elsewhere v h a b =
      get_or-set_other (set row p.low p.high) p.high v p.low 0 b ∙
      get_or-set_other row p.low v p.high 0 a ∙
      s v h ∙
      sym (partner_in_rest K p v lacks)
    where
      lacks : has p v ≡ false
      lacks =
          elim (cases_Bool (has p v)) [
            | inl x ↦ elim (has_cases p v x) [ inl e ↦ absurd (a (sym e)) | inr e ↦ absurd (b (sym e)) ]
            | inr x ↦ x
          ]

  shows_more : Shows n (p ∷ K) (set (set row p.low p.high) p.high p.low)
  unfolding pair_set
  shows_more v h =
      elim (cases_eq v p.low) [
        | inl e ↦ subst (λ (x : ℕ). get_or pair_set x 0 ≡ partner_or (p ∷ K) x) (sym e) at_low
        | inr a ↦ elim (cases_eq v p.high) [
          | inl e ↦ subst (λ (x : ℕ). get_or pair_set x 0 ≡ partner_or (p ∷ K) x) (sym e) at_high
          | inr b ↦ elsewhere v h a b
        ]
      ]

module _ (m : Meaning) (lawful : Lawful m) (l : ℕ) (row : List ℕ) where
  -- no mate above the meter: the row stays
  pub skipped : (row' : List ℕ) (k : ℕ) → ((w : ℕ) → mate_of m k l ≡ Some w → k < w → w < m.size → ⊥) → row' ≡ row → Reached m l k row → Reached m l (k + 1) row'
  skipped row' k none e (K, g, s) =
      (K, next m.chosen l k K g (λ p i at low. absurd (away p i at low)), subst (λ (xs : List ℕ). Shows m.size K xs) (sym e) s)
    where
      away : (p : Proposal) → p ∈ m.chosen → level ratio p ≡ l → p.low ≡ k → ⊥
      away p i at low =
          let mates : mate_of m k l ≡ Some p.high = simp (sym low, sym at) ((telling m lawful).low p i) in
          none p.high mates (omega (arith, p.apart)) (lawful.inside p (lawful.maximal.among p i))

  -- a chosen pair is kept if its meters are free
  looked_at : (p : Proposal) → p ∈ m.chosen → level ratio p ≡ l → m.size ≤ length row → Reached m l p.low row →
      Reached m l (p.low + 1) (with_pair row p.low p.high)
  looked_at p i at le (K, g, s) =
      go (eqb (get_or row p.low 0) p.low) refl (eqb (get_or row p.high 0) p.high) refl
    where
      choice : Choice ratio m.chosen
      choice = lawful.maximal.choice

      inside : p.high < m.size
      inside = lawful.inside p (lawful.maximal.among p i)

      low_is : get_or row p.low 0 ≡ partner_or K p.low
      low_is = s p.low (omega (arith, p.apart, inside))

      high_is : get_or row p.high 0 ≡ partner_or K p.high
      high_is = s p.high inside

      only : (K' : List Proposal) → (p ∈ K') ⊎ InTheWay ratio K' p → (q : Proposal) → q ∈ m.chosen → level ratio q ≡ l → q.low ≡ p.low →
          (q ∈ K') ⊎ InTheWay ratio K' q
      only K' h q j e low =
          let same = one_chosen ratio m.chosen p q p.low choice i j (at ∙ sym e) (has_low p) (subst (λ (x : ℕ). has q x ≡ true) low (has_low q)) in
          subst (λ (x : Proposal). (x ∈ K') ⊎ InTheWay ratio K' x) same h

      left : (p ∈ K) ⊎ InTheWay ratio K p → Reached m l (p.low + 1) row
      left h = (K, next m.chosen l p.low K g (only K h), s)

      go : (a : Bool) → eqb (get_or row p.low 0) p.low ≡ a → (b : Bool) → eqb (get_or row p.high 0) p.high ≡ b →
          Reached m l (p.low + 1) (cond (a && b) (set (set row p.low p.high) p.high p.low) row)
      go true a true b =
          let both = added m.chosen l p.low K g choice p i at
          (sym low_is ∙ eqb-true (get_or row p.low 0) p.low a) (sym high_is ∙ eqb-true (get_or row p.high 0) p.high b) in
          (p ∷ K, next m.chosen l p.low (p ∷ K) both (only (p ∷ K) (inl (inl refl))), shows_more m.size K p row inside le s)
      go true a false b = left (blocked m.chosen l p.low K g choice p i at p.high (has_high p) (λ e. eqb-false (get_or row p.high 0) p.high b (high_is ∙ e)))
      go false a b e = left (blocked m.chosen l p.low K g choice p i at p.low (has_low p) (λ e. eqb-false (get_or row p.low 0) p.low a (low_is ∙ e)))

  -- a mate above the meter: their pair is kept if both are free
  pub kept_free : (row' : List ℕ) (k w : ℕ) → mate_of m k l ≡ Some w → k < w → m.size ≤ length row → row' ≡ with_pair row k w →
      Reached m l k row → Reached m l (k + 1) row'
  kept_free row' k w e lt le is h =
      let (p, i, at, x, o) = (telling m lawful).mates k l w e in
      let (low, high) = mates_in_order p k w x o lt in
      let both : row' ≡ with_pair row p.low p.high = is ∙ sym (λ j. with_pair row (low j) (high j)) in
      subst (λ (xs : List ℕ). Reached m l (k + 1) xs) (sym both)
      (subst (λ (v : ℕ). Reached m l (v + 1) (with_pair row p.low p.high)) low
      (looked_at p i at le (subst (λ (v : ℕ). Reached m l v row) (sym low) h)))

-- before the highest level nothing is kept
pub begun : (m : Meaning) (l : ℕ) (row : List ℕ) → levels ≤ l → ((v : ℕ) → v < m.size → get_or row v 0 ≡ v) → DownTo m l row
begun m l row le own = ([], none, own)
  where
    none : KeptTo m.chosen l m.size []
    none =
        record {
          chosen = λ p i. absurd i;
          floor = λ p i. absurd i;
          pairing = tt;
          every = λ p i d. elim d [ inl a ↦ absurd (omega (arith, level_bound ratio p.saving)) | inr a ↦ absurd (omega (arith, level_bound ratio p.saving)) ];
        }

-- from one level to the next lower one
pub descended : (m : Meaning) (l : ℕ) (row : List ℕ) → Lawful m → DownTo m (l + 1) row → Reached m l 0 row
descended m l row lawful (K, g, s) = (K, lower, s)
  where
    lower : KeptTo m.chosen l 0 K
    lower =
        record {
          chosen = g.chosen;
          floor = λ p i. omega (arith, g.floor p i);
          pairing = g.pairing;
          every = λ p i d. elim d [
            | inl a ↦ elim (cases_eq (level ratio p) (l + 1)) [
              | inl e ↦ g.every p i (inr (e, omega (arith, p.apart, lawful.inside p (lawful.maximal.among p i))))
              | inr e ↦ g.every p i (inl (omega arith))
            ]
            | inr a ↦ absurd (omega arith)
          ];
        }

-- at the end the row shows what static combining keeps
pub ended : (m : Meaning) (row : List ℕ) → Lawful m → length row ≡ m.size → DownTo m 0 row → row ≡ partners (kept_of m) m.size
ended m row lawful long (K, g, s) =
    fill_by_all (partner_or (kept_of m)) row m.size 0 long
    (λ v h. s v h ∙ same_partner K (kept_of m) v g.pairing settled_kept.pairing (kept_alike ratio m.chosen K choice settled))
  where
    choice : Choice ratio m.chosen
    choice = lawful.maximal.choice

    settled_kept : Settled ratio m.chosen (kept_of m)
    settled_kept = combining ratio m.chosen choice

    settled : Settled ratio m.chosen K
    settled =
        record {
          chosen = g.chosen;
          pairing = g.pairing;
          every = λ p i. g.every p i (reached p i);
        }
      where
        reached : (p : Proposal) → p ∈ m.chosen → (0 < level ratio p) ⊎ ((level ratio p ≡ 0) × (p.low < m.size))
        reached p i =
            elim (cases_eq (level ratio p) 0) [
              | inl e ↦ inr (e, omega (arith, p.apart, lawful.inside p (lawful.maximal.among p i)))
              | inr e ↦ inl (omega arith)
            ]
