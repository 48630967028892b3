-- A level that is replaced pair by pair: one pair more that goes or comes.
use Rattle.std.proofs.Common.{◌≡◌, ℕ, ◌+◌, ◌<◌, ◌≤◌, min, Bool, true, false, cond, not, ◌&&◌, eqb, ltb, ◌≢◌, sym, refl, ap, ◌∙◌, subst, inl, inr, ⊎_elim, arith}
use Rattle.std.proofs.lemmas.Bool.{cases_Bool, cases_eq, cases_lt, both_ways, cond-true, cond-false, eq-eqb, ne_eqb, eqb-false, and_parts, and_from, not-true, ltb-true, lt-ltb, eqb-true}
use Rattle.std.proofs.lemmas.Bool.Decides.{nat_tests}
use Rattle.choices.specs.Mates.{entry, joined, parted, Holds}
use Rattle.settling.specs.Kept.{joinable, are_mates, Sound}
use Rattle.settling.specs.Counts.{lost}
use Rattle.settling.specs.Following.{Involution, gone, removed_to, come, added_to, Forgotten, Learnt, Follows}
use Rattle.settling.specs.declared.kept_pairs.KeptPairs.{KeptPairs}
use Rattle.choices.proofs.Joining.{joined_low, joined_high, joined_else, parted_low, parted_high, parted_else}

-- of a pair that is lost
lost_parts : (P Q : ℕ → ℕ) (i : ℕ) → lost P Q i ≡ true → (i < P i) × (P i ≢ Q i)
lost_parts P Q i h =
    let a = and_parts (ltb i (P i)) (not (eqb (P i) (Q i))) h in
    (ltb-true i (P i) a.0, eqb-false (P i) (Q i) (not-true (eqb (P i) (Q i)) a.1))

next_test : (m i : ℕ) → m ≢ i → ltb m (i + 1) ≡ ltb m i
next_test m i ne = grind (arith, nat_tests)

at_test : (i : ℕ) → ltb i (i + 1) ≡ true
at_test i = grind (arith, nat_tests)

not_yet : (i : ℕ) → ltb i i ≡ false
not_yet i = grind (arith, nat_tests)

module _ (P Q : ℕ → ℕ) (p : Involution P) (i : ℕ) (hi : i < 256) where
  -- what goes at i: the pair of i, if it is lost
  gone_else : (u : ℕ) → u < 256 → min u (P u) ≢ i → gone P Q (i + 1) u ≡ gone P Q i u
  gone_else u hu ne = ap (λ b. b && lost P Q (min u (P u))) (next_test (min u (P u)) i ne)

  gone_kept : (u : ℕ) → lost P Q i ≡ false → min u (P u) ≡ i → (gone P Q (i + 1) u ≡ false) × (gone P Q i u ≡ false)
  gone_kept u h e =
      let l : lost P Q (min u (P u)) ≡ false = ap (lost P Q) e ∙ h in
      (off (ltb (min u (P u)) (i + 1)) (lost P Q (min u (P u))) l, off (ltb (min u (P u)) i) (lost P Q (min u (P u))) l)
    where
      off : (a b : Bool) → b ≡ false → (a && b) ≡ false
      off true b e = e
      off false b e = refl

  pub gone_same : (u : ℕ) → u < 256 → lost P Q i ≡ false → gone P Q (i + 1) u ≡ gone P Q i u
  gone_same u hu h =
      ⊎_elim (λ e. let g = gone_kept u h e in g.0 ∙ sym g.1) (λ ne. gone_else u hu ne) (cases_eq (min u (P u)) i)

  module _ (h : lost P Q i ≡ true) where
    above : i < P i
    above = (lost_parts P Q i h).0

    gone_now : (u : ℕ) → min u (P u) ≡ i → gone P Q (i + 1) u ≡ true
    gone_now u e =
        and_from (ltb (min u (P u)) (i + 1)) (lost P Q (min u (P u))) (ap (λ m. ltb m (i + 1)) e ∙ at_test i) (ap (lost P Q) e ∙ h)

    gone_before : (u : ℕ) → min u (P u) ≡ i → gone P Q i u ≡ false
    gone_before u e = ap (λ b. b && lost P Q (min u (P u))) (ap (λ m. ltb m i) e ∙ not_yet i)

    low_min : min i (P i) ≡ i
    low_min = omega (arith, above)

    high_min : min (P i) (P (P i)) ≡ i
    high_min = omega (arith, above, p.back i hi)

    -- no other pair has i as its lower meter
    other_min : (u : ℕ) → u < 256 → u ≢ i → u ≢ P i → min u (P u) ≢ i
    other_min u hu a b e =
        ⊎_elim
        (λ lt. a (omega arith))
        (λ ge. let x : P u ≡ i = omega arith in b (sym (p.back u hu) ∙ ap P x))
        (cases_lt u (P u))

-- a pair that is lost goes
module _ (N₀ N : ℕ → ℕ → ℕ) (P Q : ℕ → ℕ) (p : Involution P) (l i : ℕ) (hl : l < 20) (hi : i < 256)
    (is : (j u : ℕ) → j < 20 → u < 256 → N j u ≡ removed_to N₀ l P Q i j u) where
  at_level : (u : ℕ) → u < 256 → N l u ≡ cond (gone P Q i u) u (P u)
  at_level u hu = is l u hl hu ∙ cond-true (eqb l l) _ _ (eq-eqb l l refl)

  pub forget_not : lost P Q i ≡ false → (j u : ℕ) → j < 20 → u < 256 → N j u ≡ removed_to N₀ l P Q (i + 1) j u
  forget_not h j u hj hu = is j u hj hu ∙ ap (λ b. cond (eqb j l) (cond b u (P u)) (N₀ j u)) (sym (gone_same P Q p i hi u hu h))

  module _ (h : lost P Q i ≡ true) where
    here_mate : N l i ≡ P i
    here_mate = at_level i hi ∙ cond-false (gone P Q i i) i (P i) (gone_before P Q p i hi h i (low_min P Q p i hi h))

    pub forget_mates : are_mates N l i (P i) ≡ true
    forget_mates =
        let lt = above P Q p i hi h in
        let e = here_mate in
        grind (arith, nat_tests)

    pub forget_now : (j u : ℕ) → j < 20 → u < 256 → parted N l i (P i) j u ≡ removed_to N₀ l P Q (i + 1) j u
    forget_now j u hj hu =
        ⊎_elim
        (λ e. level e)
        (λ ne. parted_else N l i (P i) j u (λ e _. ne e) (λ e _. ne e) ∙ is j u hj hu ∙ cond-false (eqb j l) _ _ (ne_eqb j l ne) ∙ sym (cond-false (eqb j l) _ _ (ne_eqb j l ne)))
        (cases_eq j l)
      where
        target : j ≡ l → removed_to N₀ l P Q (i + 1) j u ≡ cond (gone P Q (i + 1) u) u (P u)
        target e = cond-true (eqb j l) _ _ (eq-eqb j l e)

        level : j ≡ l → parted N l i (P i) j u ≡ removed_to N₀ l P Q (i + 1) j u
        level e =
            ⊎_elim
            (λ x. ap (λ k. parted N l i (P i) k u) e ∙ ap (parted N l i (P i) l) x ∙ parted_low N l i (P i) ∙ sym x ∙ sym (target e ∙ cond-true (gone P Q (i + 1) u) u (P u) (gone_now P Q p i hi h u (ap (λ v. min v (P v)) x ∙ low_min P Q p i hi h))))
            (λ nx. ⊎_elim
            (λ y. ap (λ k. parted N l i (P i) k u) e ∙ ap (parted N l i (P i) l) y ∙ parted_high N l i (P i) ∙ sym y ∙ sym (target e ∙ cond-true (gone P Q (i + 1) u) u (P u) (gone_now P Q p i hi h u (ap (λ v. min v (P v)) y ∙ high_min P Q p i hi h))))
            (λ ny.
            parted_else N l i (P i) j u (λ _ x. nx x) (λ _ x. ny x) ∙ ap (λ k. N k u) e ∙ at_level u hu ∙
            ap (λ b. cond b u (P u)) (sym (gone_else P Q p i hi u hu (other_min P Q p i hi h u hu nx ny))) ∙ sym (target e))
            (cases_eq u (P i)))
            (cases_eq u i)

-- whether the pair of u is lost is whether its mate is another
lost_pair : (P Q : ℕ → ℕ) (u : ℕ) → u < 256 → Involution P → Involution Q → P u ≢ u → (lost P Q (min u (P u)) ≡ true → P u ≢ Q u) × (lost P Q (min u (P u)) ≡ false → P u ≡ Q u)
lost_pair P Q u hu p q moved =
    ⊎_elim
    (λ lt.
    let m : min u (P u) ≡ u = omega arith in (
      λ h. (lost_parts P Q u (ap (lost P Q) (sym m) ∙ h)).1,
      λ h. same u lt (ap (lost P Q) (sym m) ∙ h),
    ))
    (λ ge.
    let m : min u (P u) ≡ P u = omega arith in
    let lt : P u < P (P u) = omega (arith, p.back u hu, le_ne (P u) u ge moved) in (
      λ h x. (lost_parts P Q (P u) (ap (lost P Q) (sym m) ∙ h)).1 (p.back u hu ∙ sym (q.back u hu) ∙ ap Q (sym x)),
      λ h. let e = same (P u) lt (ap (lost P Q) (sym m) ∙ h) in sym (q.back (P u) (p.inside u hu)) ∙ ap Q (sym e ∙ p.back u hu),
    ))
    (cases_lt u (P u))
  where
    le_ne : (a b : ℕ) → a ≤ b → (a ≡ b → ⊥) → a < b
    le_ne a b le ne = omega arith

    same : (v : ℕ) → v < P v → lost P Q v ≡ false → P v ≡ Q v
    same v lt h =
        ⊎_elim (λ e. e)
        (λ ne. absurd (both_ways (lost P Q v) h (and_from (ltb v (P v)) (not (eqb (P v) (Q v))) (lt-ltb v (P v) lt) (ap not (ne_eqb (P v) (Q v) ne)))))
        (cases_eq (P v) (Q v))

-- a meter without a mate is in no pair
lost_alone : (P Q : ℕ → ℕ) (u : ℕ) → P u ≡ u → lost P Q (min u (P u)) ≡ false
lost_alone P Q u e =
    let m : min u (P u) ≡ u = omega arith in
    ap (lost P Q) m ∙ ap (λ b. b && not (eqb (P u) (Q u))) (ap (ltb u) e ∙ not_yet u)

gone_all : (P Q : ℕ → ℕ) (u : ℕ) → u < 256 → Involution P → gone P Q 256 u ≡ lost P Q (min u (P u))
gone_all P Q u hu p = ap (λ b. b && lost P Q (min u (P u))) (lt-ltb (min u (P u)) 256 (omega arith))

gone_none : (P Q : ℕ → ℕ) (u : ℕ) → gone P Q 0 u ≡ false
gone_none P Q u = ap (λ b. b && lost P Q (min u (P u))) (zero_test (min u (P u)))
  where
    zero_test : (m : ℕ) → ltb m 0 ≡ false
    zero_test m = grind (arith, nat_tests)

-- when all that is lost is gone, what is left is in both; when all that came is there, it is the new one
module _ (P Q : ℕ → ℕ) (p : Involution P) (q : Involution Q) (u : ℕ) (hu : u < 256) where
  pub all_gone : cond (gone P Q 256 u) u (P u) ≡ come P Q 0 u
  all_gone =
      ap (λ b. cond b u (P u)) (gone_all P Q u hu p) ∙ left ∙ sym (cond-false (gone Q P 0 u) (Q u) (cond (eqb (P u) (Q u)) (P u) u) (gone_none Q P u))
    where
      both : (b : Bool) → P u ≡ u → cond b (P u) u ≡ P u
      both true e = refl
      both false e = sym e

      left : cond (lost P Q (min u (P u))) u (P u) ≡ cond (eqb (P u) (Q u)) (P u) u
      left =
          ⊎_elim
          (λ e. cond-false (lost P Q (min u (P u))) u (P u) (lost_alone P Q u e) ∙ sym (both (eqb (P u) (Q u)) e))
          (λ ne.
          let f = lost_pair P Q u hu p q ne in
          elim (cases_Bool (lost P Q (min u (P u)))) [
            | inl h ↦ cond-true (lost P Q (min u (P u))) u (P u) h ∙ sym (cond-false (eqb (P u) (Q u)) (P u) u (ne_eqb (P u) (Q u) (f.0 h)))
            | inr h ↦ cond-false (lost P Q (min u (P u))) u (P u) h ∙ sym (cond-true (eqb (P u) (Q u)) (P u) u (eq-eqb (P u) (Q u) (f.1 h)))
          ])
          (cases_eq (P u) u)

  pub all_come : come P Q 256 u ≡ Q u
  all_come =
      ap (λ b. cond b (Q u) (cond (eqb (P u) (Q u)) (P u) u)) (gone_all Q P u hu q) ∙
      ⊎_elim
      (λ e. cond-false (lost Q P (min u (Q u))) (Q u) _ (lost_alone Q P u e) ∙ alone (eqb (P u) (Q u)) (eqb-true (P u) (Q u)) e)
      (λ ne.
      let f = lost_pair Q P u hu q p ne in
      elim (cases_Bool (lost Q P (min u (Q u)))) [
        | inl h ↦ cond-true (lost Q P (min u (Q u))) (Q u) _ h
        | inr h ↦ cond-false (lost Q P (min u (Q u))) (Q u) _ h ∙ cond-true (eqb (P u) (Q u)) (P u) u (eq-eqb (P u) (Q u) (sym (f.1 h))) ∙ sym (f.1 h)
      ])
      (cases_eq (Q u) u)
    where
      alone : (b : Bool) → (b ≡ true → P u ≡ Q u) → Q u ≡ u → cond b (P u) u ≡ Q u
      alone true f e = f refl
      alone false f e = sym e

-- a pair that is new comes
module _ (N₀ N : ℕ → ℕ → ℕ) (P Q : ℕ → ℕ) (p : Involution P) (q : Involution Q) (l i : ℕ) (hl : l < 20) (hi : i < 256)
    (is : (j u : ℕ) → j < 20 → u < 256 → N j u ≡ added_to N₀ l P Q i j u) where
  level_now : (u : ℕ) → u < 256 → N l u ≡ come P Q i u
  level_now u hu = is l u hl hu ∙ cond-true (eqb l l) _ _ (eq-eqb l l refl)

  pub learn_not : lost Q P i ≡ false → (j u : ℕ) → j < 20 → u < 256 → N j u ≡ added_to N₀ l P Q (i + 1) j u
  learn_not h j u hj hu =
      is j u hj hu ∙ ap (λ b. cond (eqb j l) (cond b (Q u) (cond (eqb (P u) (Q u)) (P u) u)) (N₀ j u)) (sym (gone_same Q P q i hi u hu h))

  module _ (h : lost Q P i ≡ true) where
    free_low : N l i ≡ i
    free_low =
        level_now i hi ∙ cond-false (gone Q P i i) _ _ (gone_before Q P q i hi h i (low_min Q P q i hi h)) ∙
        cond-false (eqb (P i) (Q i)) (P i) i (ne_eqb (P i) (Q i) (λ e. (lost_parts Q P i h).1 (sym e)))

    free_high : N l (Q i) ≡ Q i
    free_high =
        level_now (Q i) (q.inside i hi) ∙ cond-false (gone Q P i (Q i)) _ _ (gone_before Q P q i hi h (Q i) (high_min Q P q i hi h)) ∙
        cond-false (eqb (P (Q i)) (Q (Q i))) (P (Q i)) (Q i)
        (ne_eqb (P (Q i)) (Q (Q i)) (λ e. (lost_parts Q P i h).1 (sym (p.back (Q i) (q.inside i hi)) ∙ ap P (e ∙ q.back i hi))))

    pub learn_joinable : joinable N l i (Q i) ≡ true
    learn_joinable =
        let lt = above Q P q i hi h in
        let a = free_low in
        let b = free_high in
        let c = q.inside i hi in
        grind (arith, nat_tests)

    pub learn_now : (j u : ℕ) → j < 20 → u < 256 → joined N l i (Q i) j u ≡ added_to N₀ l P Q (i + 1) j u
    learn_now j u hj hu =
        ⊎_elim
        (λ e. level e)
        (λ ne. joined_else N l i (Q i) j u (λ e _. ne e) (λ e _. ne e) ∙ is j u hj hu ∙ cond-false (eqb j l) _ _ (ne_eqb j l ne) ∙ sym (cond-false (eqb j l) _ _ (ne_eqb j l ne)))
        (cases_eq j l)
      where
        target : j ≡ l → added_to N₀ l P Q (i + 1) j u ≡ come P Q (i + 1) u
        target e = cond-true (eqb j l) _ _ (eq-eqb j l e)

        now : min u (Q u) ≡ i → come P Q (i + 1) u ≡ Q u
        now m = cond-true (gone Q P (i + 1) u) (Q u) _ (gone_now Q P q i hi h u m)

        level : j ≡ l → joined N l i (Q i) j u ≡ added_to N₀ l P Q (i + 1) j u
        level e =
            ⊎_elim
            (λ x. ap (λ k. joined N l i (Q i) k u) e ∙ ap (joined N l i (Q i) l) x ∙ joined_low N l i (Q i) (λ y. omega (arith, above Q P q i hi h)) ∙ ap Q (sym x) ∙ sym (target e ∙ now (ap (λ v. min v (Q v)) x ∙ low_min Q P q i hi h)))
            (λ nx. ⊎_elim
            (λ y. ap (λ k. joined N l i (Q i) k u) e ∙ ap (joined N l i (Q i) l) y ∙ joined_high N l i (Q i) ∙ sym (q.back i hi) ∙ ap Q (sym y) ∙ sym (target e ∙ now (ap (λ v. min v (Q v)) y ∙ high_min Q P q i hi h)))
            (λ ny.
            joined_else N l i (Q i) j u (λ _ x. nx x) (λ _ x. ny x) ∙ ap (λ k. N k u) e ∙ level_now u hu ∙
            ap (λ b. cond b (Q u) (cond (eqb (P u) (Q u)) (P u) u)) (sym (gone_else Q P q i hi u hu (other_min Q P q i hi h u hu nx ny))) ∙ sym (target e))
            (cases_eq u (Q i)))
            (cases_eq u i)

-- the beginning, the turn from removing to adding, and the end
module _ (k : KeptPairs) (l : ℕ) (P Q : ℕ → ℕ) (hl : l < 20) (ok : Sound k) (is : (v : ℕ) → v < 256 → P v ≡ entry k.choice l v) where
  pub old_matching : Involution P
  old_matching = record {
    inside = λ v hv. subst (λ (w : ℕ). w < 256) (sym (is v hv)) (ok.symmetric.inside l v hl hv);
    back = λ v hv.
        ap P (is v hv) ∙ is (entry k.choice l v) (ok.symmetric.inside l v hl hv) ∙ ok.symmetric.back l v hl hv;
  }

  pub forgotten_none : Forgotten k l P Q 0 k
  forgotten_none = record {
    sound = ok;
    choice = λ j u hj hu.
        ⊎_elim
        (λ e.
        ap (λ i. entry k.choice i u) e ∙ sym (is u hu) ∙ sym (cond-false (gone P Q 0 u) u (P u) (gone_none P Q u)) ∙
        sym (cond-true (eqb j l) _ _ (eq-eqb j l e)))
        (λ ne. sym (cond-false (eqb j l) _ _ (ne_eqb j l ne)))
        (cases_eq j l);
  }

  module _ (q : Involution Q) where
    pub turned : (k₁ : KeptPairs) → Forgotten k l P Q 256 k₁ → Learnt k l P Q 0 k₁
    turned k₁ f = record {
      sound = f.sound;
      choice = λ j u hj hu. f.choice j u hj hu ∙ ap (λ x. cond (eqb j l) x (entry k.choice j u)) (all_gone P Q old_matching q u hu);
    }

    pub followed : (k₂ : KeptPairs) → Learnt k l P Q 256 k₂ → Follows k l Q k₂
    followed k₂ f = record {
      sound = f.sound;
      choice = λ j u hj hu. f.choice j u hj hu ∙ ap (λ x. cond (eqb j l) x (entry k.choice j u)) (all_come P Q old_matching q u hu);
    }

-- a turn of either loop
module _ (k k₁ k₂ : KeptPairs) (l : ℕ) (P Q : ℕ → ℕ) (i : ℕ) (hl : l < 20) (hi : i < 256) (p : Involution P) where
  pub forget_more : Forgotten k l P Q i k₁ → lost P Q i ≡ true →
      (Sound k₁ → are_mates (entry k₁.choice) l i (P i) ≡ true → Holds k₂.choice (parted (entry k₁.choice) l i (P i)) × Sound k₂) →
      Forgotten k l P Q (i + 1) k₂
  forget_more f h removed =
      let r = removed f.sound (forget_mates (entry k.choice) (entry k₁.choice) P Q p l i hl hi f.choice h) in
      record {
        sound = r.1;
        choice = λ j u hj hu. r.0 j u hj hu ∙ forget_now (entry k.choice) (entry k₁.choice) P Q p l i hl hi f.choice h j u hj hu;
      }

  pub forget_pass : Forgotten k l P Q i k₁ → lost P Q i ≡ false → k₂ ≡ k₁ → Forgotten k l P Q (i + 1) k₂
  forget_pass f h e =
      subst (λ (m : KeptPairs). Forgotten k l P Q (i + 1) m) (sym e)
      record { sound = f.sound; choice = forget_not (entry k.choice) (entry k₁.choice) P Q p l i hl hi f.choice h }

  module _ (q : Involution Q) where
    pub learn_more : Learnt k l P Q i k₁ → lost Q P i ≡ true →
        (Sound k₁ → joinable (entry k₁.choice) l i (Q i) ≡ true → Holds k₂.choice (joined (entry k₁.choice) l i (Q i)) × Sound k₂) →
        Learnt k l P Q (i + 1) k₂
    learn_more f h added =
        let r = added f.sound (learn_joinable (entry k.choice) (entry k₁.choice) P Q p q l i hl hi f.choice h) in
        record {
          sound = r.1;
          choice = λ j u hj hu. r.0 j u hj hu ∙ learn_now (entry k.choice) (entry k₁.choice) P Q p q l i hl hi f.choice h j u hj hu;
        }

    pub learn_pass : Learnt k l P Q i k₁ → lost Q P i ≡ false → k₂ ≡ k₁ → Learnt k l P Q (i + 1) k₂
    learn_pass f h e =
        subst (λ (m : KeptPairs). Learnt k l P Q (i + 1) m) (sym e)
        record { sound = f.sound; choice = learn_not (entry k.choice) (entry k₁.choice) P Q p q l i hl hi f.choice h }
