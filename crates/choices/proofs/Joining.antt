-- What joining and parting two meters does to the choice that a table of mates shows.
use Rattle.std.proofs.Common.{◌≡◌, ℕ, ◌<◌, true, false, not, ◌≢◌, ◌⊎◌, List, sym, refl, ap, ◌∙◌, subst, inl, inr, arith}
use Rattle.std.proofs.lemmas.Bool.{cases_Bool, cases_eq, both_ways, not-true}
use Rattle.std.proofs.lemmas.Bool.Decides.{nat_tests}
use Rattle.proposals.specs.declared.proposals.Proposal.{Proposal}
use Rattle.proposals.proofs.Ladder.{level_bound}
use Rattle.matching.specs.Lists.{◌∈◌}
use Rattle.matching.specs.Matching.{level, has, other}
use Rattle.matching.specs.Canonical.{Ascending, insert, joins, without}
use Rattle.matching.specs.Meanings.{ratio}
use Rattle.matching.proofs.Lists.{kept_by_in, in_kept_by}
use Rattle.matching.proofs.Pairs.{has_cases, has_low, has_high, other_low, other_high}
use Rattle.matching.proofs.Order.{joins_self, one_open, insert_in, in_insert}
use Rattle.choices.specs.Mates.{joined, parted}
use Rattle.choices.specs.Showing.{Shows}
use Rattle.choices.proofs.Showing.{chosen_mated}

-- the two functions, place by place
module _ (N : ℕ → ℕ → ℕ) (l a b : ℕ) where
  pub joined_low : a ≢ b → joined N l a b l a ≡ b
  joined_low ne = grind (arith, nat_tests)

  pub joined_high : joined N l a b l b ≡ a
  joined_high = grind (arith, nat_tests)

  pub joined_else : (j u : ℕ) → (j ≡ l → u ≡ a → ⊥) → (j ≡ l → u ≡ b → ⊥) → joined N l a b j u ≡ N j u
  joined_else j u p q = grind (arith, nat_tests)

  pub parted_low : parted N l a b l a ≡ a
  parted_low = grind (arith, nat_tests)

  pub parted_high : parted N l a b l b ≡ b
  parted_high = grind (arith, nat_tests)

  pub parted_else : (j u : ℕ) → (j ≡ l → u ≡ a → ⊥) → (j ≡ l → u ≡ b → ⊥) → parted N l a b j u ≡ N j u
  parted_else j u p q = grind (arith, nat_tests)

-- the levels of all proposals are of the table, and so are the meters of those below 256
within : (p : Proposal) → p.high < 256 → (level ratio p < 20) × (p.low < 256) × (p.high < 256)
within p h = (level_bound ratio p.saving, omega (arith, p.apart), h)

-- p's two meters, which were free at its level, are joined there
module _
    (N N' : ℕ → ℕ → ℕ)
    (C : List Proposal)
    (p : Proposal)
    (s : Shows N C)
    (few : (q : Proposal) → q ∈ C → q.high < 256)
    (small : p.high < 256)
    (free_low : N (level ratio p) p.low ≡ p.low)
    (free_high : N (level ratio p) p.high ≡ p.high)
    (is : (j u : ℕ) → j < 20 → u < 256 → N' j u ≡ joined N (level ratio p) p.low p.high j u)
  where
    -- at the meters of a proposal that was chosen before nothing changes
    before : (q : Proposal) (v : ℕ) → q ∈ C → has q v ≡ true → v < 256 → N' (level ratio q) v ≡ N (level ratio q) v
    before q v m h lt =
        is (level ratio q) v (within q (few q m)).0 lt ∙
        joined_else N (level ratio p) p.low p.high (level ratio q) v
        (λ e x. chosen_mated N C s q v m h (ap (λ l. N l v) e ∙ ap (N (level ratio p)) x ∙ free_low ∙ sym x))
        (λ e x. chosen_mated N C s q v m h (ap (λ l. N l v) e ∙ ap (N (level ratio p)) x ∙ free_high ∙ sym x))

    here_low : N' (level ratio p) p.low ≡ p.high
    here_low =
        is (level ratio p) p.low (within p small).0 (within p small).1 ∙
        joined_low N (level ratio p) p.low p.high (λ e. omega (arith, p.apart))

    here_high : N' (level ratio p) p.high ≡ p.low
    here_high = is (level ratio p) p.high (within p small).0 small ∙ joined_high N (level ratio p) p.low p.high

    here : (v : ℕ) → v ≡ p.low ⊎ v ≡ p.high → (has p v ≡ true) × (other p v ≡ N' (level ratio p) v)
    here v (inl x) = (ap (has p) x ∙ has_low p, ap (other p) x ∙ other_low p ∙ sym here_low ∙ ap (N' (level ratio p)) (sym x))
    here v (inr x) = (ap (has p) x ∙ has_high p, ap (other p) x ∙ other_high p ∙ sym here_high ∙ ap (N' (level ratio p)) (sym x))

    pub shows_join : Shows N' (insert p C)
    shows_join = record {
      low = λ q m.
          elim (insert_in p C q m) [
            | inl x ↦ subst (λ (y : Proposal). N' (level ratio y) y.low ≡ y.high) (sym x) here_low
            | inr k ↦ before q q.low k (has_low q) (within q (few q k)).1 ∙ s.low q k
          ];
      high = λ q m.
          elim (insert_in p C q m) [
            | inl x ↦ subst (λ (y : Proposal). N' (level ratio y) y.high ≡ y.low) (sym x) here_high
            | inr k ↦ before q q.high k (has_high q) (few q k) ∙ s.high q k
          ];
      only = λ l v hl hv ne. only l v hl hv ne (cases_eq l (level ratio p)) (cases_eq v p.low) (cases_eq v p.high);
    }
      where
        new : (l v : ℕ) → l ≡ level ratio p → v ≡ p.low ⊎ v ≡ p.high →
            (q : Proposal) × (q ∈ insert p C) × (level ratio q ≡ l) × (has q v ≡ true) × (other q v ≡ N' l v)
        new l v e x = let h = here v x in (p, in_insert p C p (inl refl), sym e, h.0, h.1 ∙ ap (λ k. N' k v) (sym e))

        old : (l v : ℕ) → l < 20 → v < 256 → N' l v ≢ v → (l ≡ level ratio p → v ≡ p.low → ⊥) → (l ≡ level ratio p → v ≡ p.high → ⊥) →
            (q : Proposal) × (q ∈ insert p C) × (level ratio q ≡ l) × (has q v ≡ true) × (other q v ≡ N' l v)
        old l v hl hv ne x y =
            let same : N' l v ≡ N l v = is l v hl hv ∙ joined_else N (level ratio p) p.low p.high l v x y in
            let w = s.only l v hl hv (λ e. ne (same ∙ e)) in
            (w.0, in_insert p C w.0 (inr w.1), w.2, w.3, w.4 ∙ sym same)

        only : (l v : ℕ) → l < 20 → v < 256 → N' l v ≢ v →
            (l ≡ level ratio p) ⊎ (l ≡ level ratio p → ⊥) → (v ≡ p.low) ⊎ (v ≡ p.low → ⊥) → (v ≡ p.high) ⊎ (v ≡ p.high → ⊥) →
            (q : Proposal) × (q ∈ insert p C) × (level ratio q ≡ l) × (has q v ≡ true) × (other q v ≡ N' l v)
        only l v hl hv ne (inr e) x y = old l v hl hv ne (λ a. absurd (e a)) (λ a. absurd (e a))
        only l v hl hv ne (inl e) (inl x) y = new l v e (inl x)
        only l v hl hv ne (inl e) (inr x) (inl y) = new l v e (inr y)
        only l v hl hv ne (inl e) (inr x) (inr y) = old l v hl hv ne (λ _. x) (λ _. y)

-- q's two meters, which were mates at its level, are parted there
module _
    (N N' : ℕ → ℕ → ℕ)
    (C : List Proposal)
    (q : Proposal)
    (s : Shows N C)
    (few : (p : Proposal) → p ∈ C → p.high < 256)
    (up : Ascending C)
    (chosen : q ∈ C)
    (is : (j u : ℕ) → j < 20 → u < 256 → N' j u ≡ parted N (level ratio q) q.low q.high j u)
  where
    rest : List Proposal
    rest = without q.low q.high C

    -- another chosen proposal of its level has neither of its meters
    clear : (p : Proposal) (v : ℕ) → p ∈ C → joins q.low q.high p ≡ false → has p v ≡ true → level ratio p ≡ level ratio q → (v ≡ q.low) ⊎ (v ≡ q.high) → ⊥
    clear p v m k h e x =
        let f = N (level ratio q) in
        let low : f p.low ≡ p.high = ap (λ l. N l p.low) (sym e) ∙ s.low p m in
        let high : f p.high ≡ p.low = ap (λ l. N l p.high) (sym e) ∙ s.high p m in
        let both : p.low ≡ q.low → p.high ≡ q.high → ⊥ =
        λ a b. both_ways (joins q.low q.high p) k (subst (λ (i : ℕ). joins i q.high p ≡ true) a (subst (λ (j : ℕ). joins p.low j p ≡ true) b (joins_self p)))
        in
        meets low high both (has_cases p v h) x
      where
        meets : N (level ratio q) p.low ≡ p.high → N (level ratio q) p.high ≡ p.low → (p.low ≡ q.low → p.high ≡ q.high → ⊥) →
            (p.low ≡ v) ⊎ (p.high ≡ v) → (v ≡ q.low) ⊎ (v ≡ q.high) → ⊥
        meets low high both (inl a) (inl b) = both (a ∙ b) (sym low ∙ ap (N (level ratio q)) (a ∙ b) ∙ s.low q chosen)
        meets low high both (inl a) (inr b) = omega (arith, low, ap (N (level ratio q)) (a ∙ b), s.high q chosen, p.apart, q.apart, a ∙ b)
        meets low high both (inr a) (inl b) = omega (arith, high, ap (N (level ratio q)) (a ∙ b), s.low q chosen, p.apart, q.apart, a ∙ b)
        meets low high both (inr a) (inr b) = both (sym high ∙ ap (N (level ratio q)) (a ∙ b) ∙ s.high q chosen) (a ∙ b)

    -- at the meters of another chosen proposal nothing changes
    stays : (p : Proposal) (v : ℕ) → p ∈ C → joins q.low q.high p ≡ false → has p v ≡ true → v < 256 → N' (level ratio p) v ≡ N (level ratio p) v
    stays p v m k h lt =
        is (level ratio p) v (within p (few p m)).0 lt ∙
        parted_else N (level ratio q) q.low q.high (level ratio p) v (λ e x. clear p v m k h e (inl x)) (λ e x. clear p v m k h e (inr x))

    -- a meter that still has a mate is none of q's two at its level
    apart_low : (l v : ℕ) → l < 20 → v < 256 → N' l v ≢ v → l ≡ level ratio q → v ≡ q.low → ⊥
    apart_low l v hl hv ne e x =
        ne (is l v hl hv ∙ ap (λ j. parted N (level ratio q) q.low q.high j v) e ∙ ap (parted N (level ratio q) q.low q.high (level ratio q)) x ∙ parted_low N (level ratio q) q.low q.high ∙ sym x)

    apart_high : (l v : ℕ) → l < 20 → v < 256 → N' l v ≢ v → l ≡ level ratio q → v ≡ q.high → ⊥
    apart_high l v hl hv ne e x =
        ne (is l v hl hv ∙ ap (λ j. parted N (level ratio q) q.low q.high j v) e ∙ ap (parted N (level ratio q) q.low q.high (level ratio q)) x ∙ parted_high N (level ratio q) q.low q.high ∙ sym x)

    of_rest : (p : Proposal) → p ∈ rest → (p ∈ C) × (joins q.low q.high p ≡ false)
    unfolding rest
    of_rest p m = let h = kept_by_in (λ p. not (joins q.low q.high p)) C p m in (h.0, not-true (joins q.low q.high p) h.1)

    pub shows_part : Shows N' (without q.low q.high C)
    unfolding rest
    shows_part = record {
      low = λ p m. let h = of_rest p m in stays p p.low h.0 h.1 (has_low p) (within p (few p h.0)).1 ∙ s.low p h.0;
      high = λ p m. let h = of_rest p m in stays p p.high h.0 h.1 (has_high p) (few p h.0) ∙ s.high p h.0;
      only = λ l v hl hv ne.
          let x = apart_low l v hl hv ne in
          let y = apart_high l v hl hv ne in
          let same : N' l v ≡ N l v = is l v hl hv ∙ parted_else N (level ratio q) q.low q.high l v x y in
          let w = s.only l v hl hv (λ e. ne (same ∙ e)) in
          let p : Proposal = w.0 in
          let other_one : joins q.low q.high p ≡ false =
          elim (cases_Bool (joins q.low q.high p)) [
            | inl k ↦
                let e : p ≡ q = one_open C p q q.low q.high up w.1 chosen k (joins_self q) in
                let at : l ≡ level ratio q = sym w.2 ∙ ap (level ratio) e in
                absurd (elim (has_cases q v (ap (λ z. has z v) (sym e) ∙ w.3)) [ inl a ↦ x at (sym a) | inr a ↦ y at (sym a) ])
            | inr k ↦ k
          ]
          in
          (p, in_kept_by (λ p. not (joins q.low q.high p)) C p w.1 (ap not other_one), w.2, w.3, w.4 ∙ sym same);
    }
