-- What static combining keeps.
use Rattle.std.proofs.Common.{◌≡◌, ℕ, zero, suc, ◌+◌, ◌<◌, ◌≤◌, true, false, not, eqb, ◌⊎◌, List, filter, sym, refl, ◌∙◌, inl, inr, arith}
use Rattle.std.proofs.lemmas.Bool.{cases_Bool, cases_order, cases_eq, eqb-true, eq-eqb, ne_eqb, cond-true, cond-false, not-true, not_from_false}
use Rattle.proposals.specs.declared.proposals.Proposal.{Proposal}
use Rattle.proposals.proofs.Ladder.{level_bound}
use Rattle.matching.specs.Lists.{◌∈◌, any}
use Rattle.matching.specs.Matching.{shares, is_in, level, Choice, stays, kept_from, kept}
use Rattle.matching.specs.Theorems.{Combining}
use Rattle.matching.proofs.Lists.{any_member, any_false, kept_by_in, in_kept_by, pairwise_kept_by, pairwise_weaker}
use Rattle.matching.proofs.Pairs.{apart_sym, is_in_lem, in_is}

-- a kept pair of a higher level stands in the way of p
abbrev pub InTheWay : ℕ → List Proposal → Proposal → Type 0
InTheWay r K p = (q : Proposal) × (q ∈ K) × (level r p < level r q) × (shares p q ≡ true)

-- the state of combining once level l is done
record Going (r : ℕ) (C K : List Proposal) (l : ℕ) : Type 0 where
  chosen : (p : Proposal) → p ∈ K → p ∈ C
  floor : (p : Proposal) → p ∈ K → l ≤ level r p
  clear : (p q : Proposal) → p ∈ K → q ∈ K → level r p < level r q → shares p q ≡ false
  every : (p : Proposal) → p ∈ C → l ≤ level r p → (p ∈ K) ⊎ InTheWay r K p

module _ (r : ℕ) (K : List Proposal) (l : ℕ) (p : Proposal) where
  stays_cases : stays r K l p ≡ true → ((level r p ≡ l) × (any (shares p) K ≡ false)) ⊎ (p ∈ K)
  stays_cases h =
      elim (cases_Bool (eqb (level r p) l)) [
        | inl e ↦
            inl (
              eqb-true (level r p) l e,
              not-true (any (shares p) K) (sym (cond-true (eqb (level r p) l) (not (any (shares p) K)) (is_in K p) e) ∙ h),
            )
        | inr e ↦ inr (is_in_lem K p (sym (cond-false (eqb (level r p) l) (not (any (shares p) K)) (is_in K p) e) ∙ h))
      ]

  stays_here : level r p ≡ l → any (shares p) K ≡ false → stays r K l p ≡ true
  stays_here e h =
      cond-true (eqb (level r p) l) (not (any (shares p) K)) (is_in K p) (eq-eqb (level r p) l e) ∙
      not_from_false (any (shares p) K) h

  stays_there : l < level r p → p ∈ K → stays r K l p ≡ true
  stays_there e m =
      cond-false (eqb (level r p) l) (not (any (shares p) K)) (is_in K p) (ne_eqb (level r p) l (omega arith)) ∙ in_is K p m

module _ (r : ℕ) (C K : List Proposal) (l : ℕ) (g : Going r C K (suc l)) where
  next : List Proposal
  next = filter (stays r K l) C

  next_has : (p : Proposal) → p ∈ K → p ∈ next
  unfolding next
  next_has p m = in_kept_by (stays r K l) C p (g.chosen p m) (stays_there r K l p (g.floor p m) m)

  next_from : (p : Proposal) → p ∈ next → (p ∈ C) × (((level r p ≡ l) × (any (shares p) K ≡ false)) ⊎ (p ∈ K))
  unfolding next
  next_from p m = let h = kept_by_in (stays r K l) C p m in (h.0, stays_cases r K l p h.1)

  next_floor : (p : Proposal) → p ∈ next → l ≤ level r p
  next_floor p m = elim (next_from p m).1 [ inl h ↦ omega arith | inr h ↦ omega (arith, g.floor p h) ]

  next_above : (p : Proposal) → p ∈ next → l < level r p → p ∈ K
  next_above p m h = elim (next_from p m).1 [ inl k ↦ absurd (omega arith) | inr k ↦ k ]

  next_clear : (p q : Proposal) → p ∈ next → q ∈ next → level r p < level r q → shares p q ≡ false
  next_clear p q m n h =
      let u : q ∈ K = next_above q n (omega (arith, next_floor p m)) in
      elim (next_from p m).1 [
        | inl k ↦ any_false (shares p) K q k.1 u
        | inr k ↦ g.clear p q k u h
      ]

  next_every : (p : Proposal) → p ∈ C → l ≤ level r p → (p ∈ next) ⊎ InTheWay r next p
  unfolding next
  next_every p m h =
      elim (cases_eq (level r p) l) [
        | inl e ↦
            elim (cases_Bool (any (shares p) K)) [
              | inl s ↦
                  let w = any_member (shares p) K s in
                  inr (w.0, next_has w.0 w.1, omega (arith, g.floor w.0 w.1), w.2)
              | inr s ↦ inl (in_kept_by (stays r K l) C p m (stays_here r K l p e s))
            ]
        | inr e ↦
            elim (g.every p m (omega arith)) [
              | inl k ↦ inl (next_has p k)
              | inr w ↦ inr (w.0, next_has w.0 w.1, w.2, w.3)
            ]
      ]

  next_going : Going r C next l
  next_going = record { chosen = λ p m. (next_from p m).0; floor = next_floor; clear = next_clear; every = next_every }

going : (r : ℕ) (C : List Proposal) (d l : ℕ) → d + l ≡ 20 → Going r C (kept_from r C d l) l
unfolding kept_from next
going r C zero l e =
    record {
      chosen = λ p m. absurd m;
      floor = λ p m. absurd m;
      clear = λ p q m. absurd m;
      every = λ p m h. absurd (omega (arith, level_bound r p.saving));
    }
going r C (suc d) l e = next_going r C (kept_from r C d (suc l)) l (going r C d (suc l) (omega arith))

kept_from_choice : (r : ℕ) (C : List Proposal) (d l : ℕ) → Choice r C → Choice r (kept_from r C d l)
unfolding kept_from
kept_from_choice r C zero l h = tt
kept_from_choice r C (suc d) l h =
    pairwise_kept_by (λ p q. level r p ≡ level r q → shares p q ≡ false) (stays r (kept_from r C d (suc l)) l) C h

pub combining : Combining
unfolding kept
combining r C h =
    let g = going r C 20 0 refl in
    record {
      chosen = g.chosen;
      pairing =
          pairwise_weaker (λ p q. level r p ≡ level r q → shares p q ≡ false) (λ p q. shares p q ≡ false) (kept_from r C 20 0)
          (λ p q m n f.
          elim (cases_order (level r p) (level r q)) [
            | inl e ↦ f e
            | inr (inl e) ↦ g.clear p q m n e
            | inr (inr e) ↦ apart_sym q p (g.clear q p n m e)
          ])
          (kept_from_choice r C 20 0 h);
      every = λ p m. g.every p m (omega arith);
    }
