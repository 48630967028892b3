-- The steps of settling, over functions of the numbers of the meters and the levels.
use Rattle.std.proofs.Common.{◌≡◌, ℕ, ◌+◌, ◌<◌, ◌≢◌, ◌⊎◌, sym, ap, ◌∙◌, inl, inr, ⊎_elim, arith}
use Rattle.std.proofs.lemmas.Bool.{cases_eq, cases_lt}
use Rattle.settling.specs.Kept.{Symmetric, Held, Paired}
use Rattle.settling.specs.Steps.{Done, SettledBut, Passed, Upto, Or}

-- v is a, or b, or neither
pub which : (v a b : ℕ) → (v ≡ a) ⊎ ((v ≡ b) ⊎ ((v ≢ a) × (v ≢ b)))
which v a b =
    ⊎_elim
    (λ p. inl p)
    (λ p. ⊎_elim (λ q. inr (inl q)) (λ q. inr (inr (p, q))) (cases_eq v b))
    (cases_eq v a)

-- what is settled stays so where what is done at each meter stays done
pub weaken :
    (N : ℕ → ℕ → ℕ) (A A' : ℕ → ℕ) (P Q : ℕ → ℕ → Type 0)
    → Symmetric N
    → ((v l : ℕ) → v < 256 → Done A P v l → Done A' Q v l)
    → SettledBut N A P
    → SettledBut N A' Q
weaken N A A' P Q s w t l v hl hv ne =
    ⊎_elim (λ d. inl (w v l hv d)) (λ d. inr (w (N l v) l (s.inside l v hl hv) d)) (t l v hl hv ne)

-- one of the two of a chosen pair is done
abbrev Either : (ℕ → ℕ → ℕ) → (ℕ → ℕ) → (ℕ → ℕ → Type 0) → ℕ → ℕ → Type 0
Either N A P v l = Done A P v l ⊎ Done A P (N l v) l

-- of what is left out at m only the levels below lo are left, if those from lo on were passed
pub pass :
    (N : ℕ → ℕ → ℕ) (A : ℕ → ℕ) (P : ℕ → ℕ → Type 0) (m lo hi : ℕ)
    → Symmetric N
    → Passed N A m lo hi
    → SettledBut N A (Or P (Upto m hi))
    → SettledBut N A (Or P (λ v l. (v ≡ m) × (l < lo)))
pass N A P m lo hi s p t l v hl hv ne =
    ⊎_elim
    (⊎_elim (λ a. inl (inl a)) (⊎_elim (λ o. inl (inr (inl o))) mine))
    (⊎_elim (λ a. inr (inl a)) (⊎_elim (λ o. inr (inr (inl o))) theirs))
    (t l v hl hv ne)
  where
    mine : Upto m hi v l → Either N A (Or P (λ v l. (v ≡ m) × (l < lo))) v l
    mine u =
        ⊎_elim
        (λ b. inl (inr (inr (u.0, b))))
        (λ b. ⊎_elim
        (λ c. inl (inl (rw u.0 c)))
        (λ c. inr (inl (rw u.0 c)))
        (p l b u.1 hl (omega (arith, u.0)) (λ e. ne (ap (N l) u.0 ∙ (e ∙ sym u.0)))))
        (cases_lt l lo)

    theirs : Upto m hi (N l v) l → Either N A (Or P (λ v l. (v ≡ m) × (l < lo))) v l
    theirs u =
        let w : N l m ≡ v = ap (N l) (sym u.0) ∙ s.back l v hl hv in
        ⊎_elim
        (λ b. inr (inr (inr (u.0, b))))
        (λ b. ⊎_elim
        (λ c. inr (inl (rw u.0 c)))
        (λ (c : l < A (N l m)). inl (inl (rw w at c)))
        (p l b u.1 hl (omega (arith, u.0, s.inside l v hl hv)) (λ e. ne (u.0 ∙ (sym e ∙ w)))))
        (cases_lt l lo)

-- a kept pair stays where the heights of its two meters do
carry :
    (N : ℕ → ℕ → ℕ) (A A' : ℕ → ℕ) (v l : ℕ)
    → Held N A v l
    → A' (N l v) ≡ A (N l v)
    → Held N A' v l
carry N A A' v l h e = record { low = h.low; mated = h.mated; level = e ∙ h.level }

-- m and x, its mate in a kept pair of the level i, are released
module _ (N : ℕ → ℕ → ℕ) (A A' : ℕ → ℕ) (m x i : ℕ) where
  pub free_paired :
      m < 256
      → Symmetric N
      → Paired N A
      → A m ≡ i + 1
      → N i m ≡ x
      → A' m ≡ 0
      → A' x ≡ 0
      → ((v : ℕ) → v ≢ m → v ≢ x → A' v ≡ A v)
      → Paired N A'
  free_paired hm s p am xm mm xx rest v l hv e =
      ⊎_elim
      (λ (q : v ≡ m). absurd (omega (arith, ap A' q)))
      (⊎_elim
      (λ (q : v ≡ x). absurd (omega (arith, ap A' q)))
      (λ q.
      let h = p v l hv (sym (rest v q.0 q.1) ∙ e) in
      let d = p m i hm am in
      let ax : A x ≡ i + 1 = ap A (sym xm) ∙ d.level in
      let back : N l (N l v) ≡ v = s.back l v h.low hv in
      let not_m : N l v ≢ m =
      λ z.
      let li : l ≡ i = omega (arith, ap A z, h.level) in
      q.1 (sym back ∙ (ap (N l) z ∙ (ap (λ j. N j m) li ∙ xm)))
      in
      let not_x : N l v ≢ x =
      λ z.
      let li : l ≡ i = omega (arith, ap A z, h.level) in
      q.0 (sym back ∙ (ap (N l) z ∙ (ap (λ j. N j x) li ∙ (ap (N i) (sym xm) ∙ s.back i m d.low hm))))
      in
      carry N A A' v l h (rest (N l v) not_m not_x)))
      (which v m x)

-- a and b, which are free, become a kept pair of the level i
module _ (N : ℕ → ℕ → ℕ) (A A' : ℕ → ℕ) (a b i : ℕ) where
  pub join_paired :
      i < 20
      → a ≢ b
      → N i a ≡ b
      → N i b ≡ a
      → Paired N A
      → A a ≡ 0
      → A b ≡ 0
      → A' a ≡ i + 1
      → A' b ≡ i + 1
      → ((v : ℕ) → v ≢ a → v ≢ b → A' v ≡ A v)
      → Paired N A'
  join_paired hi ne na nb p fa fb la lb rest v l hv e =
      ⊎_elim
      (λ (q : v ≡ a).
      let z : l ≡ i = omega (arith, ap A' q) in
      rw (q, z) record { low = hi; mated = λ y. ne (sym y ∙ na); level = ap A' na ∙ lb })
      (⊎_elim
      (λ (q : v ≡ b).
      let z : l ≡ i = omega (arith, ap A' q) in
      rw (q, z) record { low = hi; mated = λ y. ne (sym nb ∙ y); level = ap A' nb ∙ la })
      (λ q.
      let h = p v l hv (sym (rest v q.0 q.1) ∙ e) in
      carry N A A' v l h
      (rest (N l v) (λ z. omega (arith, ap A z, h.level)) (λ z. omega (arith, ap A z, h.level)))))
      (which v a b)
