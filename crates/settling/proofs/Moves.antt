-- What the calls do to the kept pairs and to what is settled.
use Rattle.std.proofs.Common.{◌≡◌, ℕ, zero, suc, ◌+◌, ◌<◌, ◌≤◌, Bool, true, false, ◌&&◌, ◌||◌, eqb, leb, ◌≢◌, ◌⊎◌, Some, None, Option, sym, refl, ap, ◌∙◌, subst, inl, inr, ⊎_elim, arith}
use Rattle.std.proofs.lemmas.Bool.{cases_eq, eqb-true, leb-true, eq-eqb, le-leb, and_from, and_parts, or_cases, or_left, or_right}
use Rattle.choices.specs.declared.mates.Mates.{Mates}
use Rattle.choices.specs.Mates.{entry, mate_shown}
use Rattle.settling.specs.declared.kept_pairs.KeptPairs.{KeptPairs}
use Rattle.settling.specs.declared.places.Place.{Place}
use Rattle.settling.specs.Kept.{height_of, Symmetric, Paired}
use Rattle.settling.specs.Steps.{SettledBut, Upto, Due, Out, Or, PairedIn, HeightSet, Released, Wanted, Found, Coupled, Resettled}
use Rattle.settling.proofs.Tables.{shown_some, shown_none}
use Rattle.settling.proofs.Steps.{which, weaken, pass, free_paired, join_paired}

-- ## release

pub released_choice : (r : Option Place) (k k' : KeptPairs) (m : ℕ) → Released r k k' m → k'.choice ≡ k.choice
released_choice None k k' m h = ap (λ (q : KeptPairs). q.choice) h.0
released_choice (Some p) k k' m h = h.2.choice

released_lower : (r : Option Place) (k k' : KeptPairs) (m : ℕ) → Released r k k' m → (v : ℕ) → height_of k' v ≤ height_of k v
released_lower None k k' m h v = let e : height_of k' v ≡ height_of k v = ap (λ (q : KeptPairs). height_of q v) h.0 in omega arith
released_lower (Some p) k k' m h v = h.2.lower v

-- the release of a meter of the table, where the kept pairs are of the choice N
module _
    (N : ℕ → ℕ → ℕ)
    (k k' : KeptPairs)
    (m : ℕ)
    (is : entry k.choice ≡ N)
    (hm : m < 256)
    (s : Symmetric N)
    (p : Paired N (height_of k))
  where
    -- none is answered only for a free meter
    was_free : Released None k k' m → height_of k m ≡ 0
    was_free h = go (height_of k m) refl
      where
        go : (n : ℕ) → height_of k m ≡ n → n ≡ 0
        go zero e = refl
        go (suc l) e =
            let f : height_of k m ≡ l + 1 = omega arith in
            let d = p m l hm f in
            absurd (d.mated (shown_none N m l hm d.low (ap (λ (M : ℕ → ℕ → ℕ). mate_shown M m l) (sym is) ∙ h.1 l f)))

    -- the meter that is answered is the mate
    its_mate : (x : Place) → Released (Some x) k k' m → N x.level m ≡ x.meter
    its_mate x h = sym (shown_some N m x.level x.meter (ap (λ (M : ℕ → ℕ → ℕ). mate_shown M m x.level) (sym is) ∙ h.1)).2

    mate_inside : (x : Place) → Released (Some x) k k' m → x.meter < 256
    mate_inside x h = omega (arith, its_mate x h, s.inside x.level m (p m x.level hm h.0).low hm)

    pub released_free : (r : Option Place) → Released r k k' m → height_of k' m ≡ 0
    released_free None h = ap (λ (q : KeptPairs). height_of q m) h.0 ∙ was_free h
    released_free (Some x) h = h.2.free hm

    pub released_paired : (r : Option Place) → Released r k k' m → Paired N (height_of k')
    released_paired None h = subst (λ (q : KeptPairs). Paired N (height_of q)) (sym h.0) p
    released_paired (Some x) h =
        free_paired N (height_of k) (height_of k') m x.meter x.level hm s p h.0 (its_mate x h)
        (h.2.free hm) (h.2.other_free (mate_inside x h)) h.2.rest

    -- what a release takes from another meter than its own is due
    pub released_due : (r : Option Place) → Released r k k' m → (v j : ℕ) → v ≢ m → j < height_of k v → (j < height_of k' v) ⊎ Due r v j
    released_due None h v j ne b = let e : height_of k' v ≡ height_of k v = ap (λ (q : KeptPairs). height_of q v) h.0 in inl (omega arith)
    released_due (Some x) h v j ne b =
        ⊎_elim
        (λ (q : v ≡ x.meter).
        inr (q, omega (arith, ap (height_of k) q, ap (height_of k) (its_mate x h), (p m x.level hm h.0).level)))
        (λ q. inl (omega (arith, h.2.rest v ne q)))
        (cases_eq v x.meter)

    -- of a kept pair of the level l, the mate is free too, and it alone is due
    pub released_mate : (r : Option Place) (l : ℕ) → Released r k k' m → height_of k m ≡ l + 1 →
        (height_of k' (N l m) ≡ 0) × ((v j : ℕ) → Due r v j → Upto (N l m) l v j)
    released_mate None l h e = absurd (omega (arith, was_free h))
    released_mate (Some x) l h e =
        let z : x.level ≡ l = omega (arith, h.0) in
        let w : N l m ≡ x.meter = ap (λ i. N i m) (sym z) ∙ its_mate x h in (
          ap (height_of k') w ∙ h.2.other_free (mate_inside x h),
          λ v j d. (d.0 ∙ sym w, omega (arith, d.1)),
        )

-- ## couple

module _
    (k k₁ k₂ k₃ k₄ : KeptPairs)
    (a : ℕ)
    (mate : Place)
    (x y : Option Place)
    (r : Released x k k₁ a)
    (t : Released y k₁ k₂ mate.meter)
    (f : HeightSet k₂ k₃ a (mate.level + 1))
    (g : HeightSet k₃ k₄ mate.meter (mate.level + 1))
  where
    pub couple_choice : k₄.choice ≡ k.choice
    couple_choice = g.choice ∙ (f.choice ∙ (released_choice y k₁ k₂ mate.meter t ∙ released_choice x k k₁ a r))

    pub couple_coupled : Symmetric (entry k.choice) → PairedIn k → Wanted k a mate → Coupled k k₄ a mate x y
    couple_coupled s p w =
        let b = mate.meter in
        let l = mate.level in
        let N : ℕ → ℕ → ℕ = entry k.choice in
        let ha = w.inside in
        let hb : b < 256 = omega (arith, w.chosen, s.inside l a mate.low ha) in
        let is : entry k₁.choice ≡ N = ap entry (released_choice x k k₁ a r) in
        let p₁ = released_paired N k k₁ a refl ha s p x r in
        let p₂ = released_paired N k₁ k₂ b is hb s p₁ y t in
        let ne : a ≢ b = λ e. w.other (sym e) in
        let back : N l b ≡ a = ap (N l) w.chosen ∙ s.back l a mate.low ha in
        let fa : height_of k₂ a ≡ 0 = omega (arith, released_free N k k₁ a refl ha s p x r, released_lower y k₁ k₂ b t a) in
        let la : height_of k₄ a ≡ l + 1 = g.rest a ne ∙ f.here ha in
        let lb : height_of k₄ b ≡ l + 1 = g.here hb in
        let rest : (v : ℕ) → v ≢ a → v ≢ b → height_of k₄ v ≡ height_of k₂ v = λ v p q. g.rest v q ∙ f.rest v p in
        let p₄ : Paired N (height_of k₄) =
        join_paired N (height_of k₂) (height_of k₄) a b l mate.low ne (sym w.chosen) back p₂ fa
        (released_free N k₁ k₂ b is hb s p₁ y t) la lb rest
        in
        record {
          paired = subst (λ (c : Mates). Paired (entry c) (height_of k₄)) (sym couple_choice) p₄;
          level = la;
          due = λ v i hv b₀.
              ⊎_elim
              (λ (q : v ≡ a). inl (omega (arith, ap (height_of k) q, ap (height_of k₄) q, la, w.mine)))
              (⊎_elim
              (λ (q : v ≡ b). inl (omega (arith, ap (height_of k) q, ap (height_of k₄) q, lb, w.theirs)))
              (λ q.
              ⊎_elim
              (λ b₁.
              ⊎_elim
              (λ b₂. inl (omega (arith, b₂, rest v q.0 q.1)))
              (λ d. inr (inr d))
              (released_due N k₁ k₂ b is hb s p₁ y t v i q.1 b₁))
              (λ d. inr (inl d))
              (released_due N k k₁ a refl ha s p x r v i q.0 b₀)))
              (which v a b);
        }

-- ## resettle

-- how many levels are due
abbrev pub depth : Option Place → ℕ
depth None = 0
depth (Some p) = p.level + 1

-- nothing was found to do
pub resettle_none : (k : KeptPairs) (m : Place) → Found None k m → Resettled k k (Due (Some m))
resettle_none k m f =
    record {
      choice = refl;
      settles = λ P s p t. (
        p,
        weaken (entry k.choice) (height_of k) (height_of k) (Or (Out P) (λ v l. (v ≡ m.meter) × (l < 0))) (Out P) s
            (λ v l hv. ⊎_elim inl (⊎_elim inr (λ q. absurd (omega (arith, q.1)))))
            (pass (entry k.choice) (height_of k) (Out P) m.meter 0 m.level s f t),
      );
    }

symmetric_at : (k k' : KeptPairs) → k'.choice ≡ k.choice → Symmetric (entry k.choice) → Symmetric (entry k'.choice)
symmetric_at k k' e s = subst (λ (c : Mates). Symmetric (entry c)) (sym e) s

-- what is due, as a test
abbrev due : Option Place → ℕ → ℕ → Bool
due None v l = false
due (Some p) v l = eqb v p.meter && leb l p.level

due_true : (x : Option Place) (v l : ℕ) → Due x v l → due x v l ≡ true
due_true None v l d = absurd d
due_true (Some p) v l d = and_from (eqb v p.meter) (leb l p.level) (eq-eqb v p.meter d.0) (le-leb l p.level d.1)

true_due : (x : Option Place) (v l : ℕ) → due x v l ≡ true → Due x v l
true_due None v l d = let z : ◌≡◌ {A = ℕ} 0 1 = cc in absurd (omega arith)
true_due (Some p) v l d =
    let q = and_parts (eqb v p.meter) (leb l p.level) d in (eqb-true v p.meter q.0, leb-true l p.level q.1)

-- one after the other
pub resettle_both :
    (k k' k'' : KeptPairs) (x y : Option Place)
    → Resettled k k' (Due x)
    → Resettled k' k'' (Due y)
    → Resettled k k'' (Or (Due x) (Due y))
resettle_both k k' k'' x y r t =
    record {
      choice = t.choice ∙ r.choice;
      settles = λ P s p g.
          let Q : ℕ → ℕ → Bool = λ v l. P v l || due y v l in
          let first =
          r.settles Q s p
          (weaken (entry k.choice) (height_of k) (height_of k) (Or (Out P) (Or (Due x) (Due y))) (Or (Out Q) (Due x)) s
          (λ v l hv. ⊎_elim inl
          (⊎_elim
          (λ (o : P v l ≡ true). inr (inl (or_left (P v l) (due y v l) o)))
          (⊎_elim
          (λ d. inr (inr d))
          (λ d. inr (inl (or_right (P v l) (due y v l) (due_true y v l d)))))))
          g)
          in
          t.settles P (symmetric_at k k' r.choice s) first.0
          (weaken (entry k'.choice) (height_of k') (height_of k') (Out Q) (Or (Out P) (Due y)) (symmetric_at k k' r.choice s)
          (λ v l hv. ⊎_elim inl
          (λ o. ⊎_elim
          (λ (q : P v l ≡ true). inr (inl q))
          (λ q. inr (inr (true_due y v l q)))
          (or_cases (P v l) (due y v l) o)))
          first.1);
    }

-- a pair was found and made, and what it let go is settled
pub resettle_some :
    (k k₁ k₂ : KeptPairs) (m mate : Place) (x y : Option Place)
    → Found (Some mate) k m
    → k₁.choice ≡ k.choice
    → (Symmetric (entry k.choice) → PairedIn k → Wanted k m.meter mate → Coupled k k₁ m.meter mate x y)
    → Resettled k₁ k₂ (Or (Due x) (Due y))
    → Resettled k k₂ (Due (Some m))
resettle_some k k₁ k₂ m mate x y f e c r =
    record {
      choice = r.choice ∙ e;
      settles = λ P s p g.
          let d = c s p f.1 in
          let left = pass (entry k.choice) (height_of k) (Out P) m.meter (mate.level + 1) m.level s f.2 g in
          let now : SettledBut (entry k.choice) (height_of k₁) (Or (Out P) (Or (Due x) (Due y))) =
          weaken (entry k.choice) (height_of k) (height_of k₁) (Or (Out P) (λ v i. (v ≡ m.meter) × (i < mate.level + 1)))
          (Or (Out P) (Or (Due x) (Due y))) s
          (λ v i hv.
          ⊎_elim
          (λ b. ⊎_elim inl (λ z. inr (inr z)) (d.due v i hv b))
          (⊎_elim
          (λ o. inr (inl o))
          (λ q. inl (omega (arith, ap (height_of k₁) q.0, d.level, q.1)))))
          left
          in
          r.settles P (symmetric_at k k₁ e s) d.paired
          (subst (λ (c : Mates). SettledBut (entry c) (height_of k₁) (Or (Out P) (Or (Due x) (Due y)))) (sym e) now);
    }
