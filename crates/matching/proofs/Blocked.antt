-- When a chosen proposal of the same level is in the way.
use Rattle.std.proofs.Common.{◌≡◌, ℕ, true, false, ◌&&◌, eqb, ◌⊎◌, List, sym, refl, subst, inl, inr}
use Rattle.std.proofs.lemmas.Bool.{both_ways, cases_Bool, and_parts, and_from, eqb-true, eq-eqb}
use Rattle.proposals.specs.declared.proposals.Proposal.{Proposal}
use Rattle.matching.specs.Lists.{◌∈◌}
use Rattle.matching.specs.Matching.{level, shares, Choice}
use Rattle.matching.specs.Canonical.{Ascending, insert, joins, is_for}
use Rattle.matching.specs.Rules.{blocked}
use Rattle.matching.proofs.Lists.{any_member, any_true}
use Rattle.matching.proofs.Pairs.{apart_sym, shares_self}
use Rattle.matching.proofs.Order.{joins_self, one_open, insert_in, insert_ascending, pairwise_insert}

-- a chosen one of p's own level shares a meter with p
abbrev pub InTheWay : ℕ → List Proposal → Proposal → Type 0
InTheWay r C p = (q : Proposal) × (q ∈ C) × (level r q ≡ level r p) × (shares p q ≡ true)

-- p is seen to
abbrev pub Done : ℕ → List Proposal → Proposal → Type 0
Done r C p = (p ∈ C) ⊎ InTheWay r C p

pub done_too : (r : ℕ) (C D : List Proposal) (p : Proposal) → ((q : Proposal) → q ∈ C → level r q ≡ level r p → q ∈ D) → Done r C p → Done r D p
done_too r C D p f (inl m) = inl (f p m refl)
done_too r C D p f (inr w) = inr (w.0, f w.0 w.1 w.2, w.2, w.3)

module _ (r : ℕ) (C : List Proposal) (p : Proposal) where
  pub in_way : blocked r C p ≡ true → InTheWay r C p
  unfolding blocked
  in_way h =
      let w = any_member (λ q. eqb (level r q) (level r p) && shares p q) C h in
      let a = and_parts (eqb (level r w.0) (level r p)) (shares p w.0) w.2 in
      (w.0, w.1, eqb-true (level r w.0) (level r p) a.0, a.1)

  pub way_blocks : (q : Proposal) → q ∈ C → level r q ≡ level r p → shares p q ≡ true → blocked r C p ≡ true
  unfolding blocked
  way_blocks q m e s =
      any_true (λ q. eqb (level r q) (level r p) && shares p q) C q m
      (and_from (eqb (level r q) (level r p)) (shares p q) (eq-eqb (level r q) (level r p) e) s)

  pub unblocked : (q : Proposal) → blocked r C p ≡ false → q ∈ C → level r q ≡ level r p → shares p q ≡ false
  unblocked q h m e =
      elim (cases_Bool (shares p q)) [ inl s ↦ absurd (both_ways (blocked r C p) h (way_blocks q m e s)) | inr s ↦ s ]

  pub not_chosen : blocked r C p ≡ false → p ∈ C → ⊥
  not_chosen h m = both_ways (shares p p) (unblocked p h m refl) (shares_self p)

-- a part of the open ones, in order, of which no two of one level share a meter
pub record Good (r : ℕ) (opened C : List Proposal) : Type 0 where
  pub among : (p : Proposal) → p ∈ C → p ∈ opened
  pub in_order : Ascending C
  pub choice : Choice r C

-- one more that nothing blocks
pub good_more : (r : ℕ) (opened C : List Proposal) (p : Proposal) → Ascending opened → p ∈ opened → Good r opened C → blocked r C p ≡ false → Good r opened (insert p C)
good_more r opened C p up i g h =
    record {
      among = λ q m. elim (insert_in p C q m) [ inl x ↦ subst (λ (y : Proposal). y ∈ opened) (sym x) i | inr k ↦ g.among q k ];
      in_order = insert_ascending p C g.in_order new;
      choice =
          pairwise_insert (λ p q. level r p ≡ level r q → shares p q ≡ false) p C g.choice
          (λ q m k. unblocked r C p q h m (sym k)) (λ q m k. apart_sym p q (unblocked r C p q h m k));
    }
  where
    new : is_for p.low p.high C ≡ false
    new =
        elim (cases_Bool (is_for p.low p.high C)) [
          | inl k ↦
              let w = any_member (joins p.low p.high) C k in
              let x = one_open opened w.0 p p.low p.high up (g.among w.0 w.1) i w.2 (joins_self p) in
              absurd (not_chosen r C p h (subst (λ (y : Proposal). y ∈ C) x w.1))
          | inr k ↦ k
        ]
