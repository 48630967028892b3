-- Lemmas on proposals: their meters, what they share, and when they are the same.
use Rattle.std.proofs.Common.{◌≡◌, ℕ, true, false, ◌&&◌, eqb, ◌⊎◌, List, sym, refl, ap, ◌∙◌, subst, inl, inr, arith}
use Rattle.std.proofs.lemmas.Bool.{both_ways, cases_Bool, or_cases, or_left, or_right, and_parts, and_from, eqb-true, eq-eqb, ne_eqb, cond-true, cond-false}
use Rattle.matching.specs.Lists.{◌∈◌}
use Rattle.proposals.specs.declared.proposals.Proposal.{Proposal}
use Rattle.matching.specs.Matching.{has, other, shares, same, is_in, level, Pairing, Choice}
use Rattle.matching.proofs.Same.{same_parts}
use Rattle.matching.proofs.Lists.{any_member, any_true, pairwise_two}

-- meters
pub has_cases : (p : Proposal) (m : ℕ) → has p m ≡ true → (p.low ≡ m) ⊎ (p.high ≡ m)
unfolding has
has_cases p m h =
    elim (or_cases (eqb p.low m) (eqb p.high m) h)
    [ inl e ↦ inl (eqb-true p.low m e) | inr e ↦ inr (eqb-true p.high m e) ]

pub has_low : (p : Proposal) → has p p.low ≡ true
unfolding has
has_low p = or_left (eqb p.low p.low) (eqb p.high p.low) (eq-eqb p.low p.low refl)

pub has_high : (p : Proposal) → has p p.high ≡ true
unfolding has
has_high p = or_right (eqb p.low p.high) (eqb p.high p.high) (eq-eqb p.high p.high refl)

-- of three meters of a pair, two are one
pub two_only : (p : Proposal) (a b c : ℕ) → has p a ≡ true → has p b ≡ true → has p c ≡ true → (a ≡ b → ⊥) → (c ≡ a) ⊎ (c ≡ b)
two_only p a b c ha hb hc ne = go (has_cases p a ha) (has_cases p b hb) (has_cases p c hc)
  where
    go : (p.low ≡ a) ⊎ (p.high ≡ a) → (p.low ≡ b) ⊎ (p.high ≡ b) → (p.low ≡ c) ⊎ (p.high ≡ c) → (c ≡ a) ⊎ (c ≡ b)
    go (inl x) (inl y) z = absurd (ne (sym x ∙ y))
    go (inl x) (inr y) (inl z) = inl (sym z ∙ x)
    go (inl x) (inr y) (inr z) = inr (sym z ∙ y)
    go (inr x) (inl y) (inl z) = inr (sym z ∙ y)
    go (inr x) (inl y) (inr z) = inl (sym z ∙ x)
    go (inr x) (inr y) z = absurd (ne (sym x ∙ y))

pub other_low : (p : Proposal) → other p p.low ≡ p.high
other_low p = cond-true (eqb p.low p.low) p.high p.low (eq-eqb p.low p.low refl)

pub other_high : (p : Proposal) → other p p.high ≡ p.low
other_high p = cond-false (eqb p.low p.high) p.high p.low (ne_eqb p.low p.high (λ e. omega (arith, p.apart)))

-- sharing
pub shares_by : (p q : Proposal) (m : ℕ) → has p m ≡ true → has q m ≡ true → shares p q ≡ true
unfolding shares
shares_by p q m h k =
    elim (has_cases p m h) [
      | inl e ↦ or_left (has q p.low) (has q p.high) (ap (has q) e ∙ k)
      | inr e ↦ or_right (has q p.low) (has q p.high) (ap (has q) e ∙ k)
    ]

pub share_at : (p q : Proposal) → shares p q ≡ true → (m : ℕ) × (has p m ≡ true) × (has q m ≡ true)
unfolding shares
share_at p q h =
    elim (or_cases (has q p.low) (has q p.high) h)
    [ inl e ↦ (p.low, has_low p, e) | inr e ↦ (p.high, has_high p, e) ]

pub shares_self : (p : Proposal) → shares p p ≡ true
shares_self p = shares_by p p p.low (has_low p) (has_low p)

pub share_sym : (p q : Proposal) → shares p q ≡ true → shares q p ≡ true
share_sym p q h = let r = share_at p q h in shares_by q p r.0 r.2 r.1

pub apart_sym : (p q : Proposal) → shares p q ≡ false → shares q p ≡ false
apart_sym p q h = elim (cases_Bool (shares q p)) [ inl e ↦ absurd (both_ways (shares p q) h (share_sym q p e)) | inr e ↦ e ]

pub never_both : (p q : Proposal) (m : ℕ) → shares p q ≡ false → has p m ≡ true → has q m ≡ true → ⊥
never_both p q m h a b = both_ways (shares p q) h (shares_by p q m a b)

-- sameness
pub same_true : (p q : Proposal) → same p q ≡ true → p ≡ q
unfolding same
same_true p q h =
    let a = and_parts (eqb p.low q.low && eqb p.high q.high) (eqb p.saving q.saving) h in
    let b = and_parts (eqb p.low q.low) (eqb p.high q.high) a.0 in
    same_parts p q (eqb-true p.low q.low b.0) (eqb-true p.high q.high b.1) (eqb-true p.saving q.saving a.1)

pub same_self : (p : Proposal) → same p p ≡ true
unfolding same
same_self p =
    and_from (eqb p.low p.low && eqb p.high p.high) (eqb p.saving p.saving)
    (and_from (eqb p.low p.low) (eqb p.high p.high) (eq-eqb p.low p.low refl) (eq-eqb p.high p.high refl))
    (eq-eqb p.saving p.saving refl)

pub is_in_lem : (K : List Proposal) (p : Proposal) → is_in K p ≡ true → p ∈ K
is_in_lem K p h = let r = any_member (same p) K h in subst (λ (x : Proposal). x ∈ K) (sym (same_true p r.0 r.2)) r.1

pub in_is : (K : List Proposal) (p : Proposal) → p ∈ K → is_in K p ≡ true
in_is K p m = any_true (same p) K p m (same_self p)

pub not_in : (K : List Proposal) (p : Proposal) → is_in K p ≡ false → p ∈ K → ⊥
not_in K p h m = both_ways (is_in K p) h (in_is K p m)

pub isnt_in : (K : List Proposal) (p : Proposal) → (p ∈ K → ⊥) → is_in K p ≡ false
isnt_in K p h = elim (cases_Bool (is_in K p)) [ inl e ↦ absurd (h (is_in_lem K p e)) | inr e ↦ e ]

-- the pair of a pairing that has the meter
pub one_pair : (K : List Proposal) (p q : Proposal) (m : ℕ) → Pairing K → p ∈ K → q ∈ K → has p m ≡ true → has q m ≡ true → p ≡ q
one_pair K p q m h a b x y =
    elim (pairwise_two (λ p q. shares p q ≡ false) K p q h a b) [
      | inl e ↦ e
      | inr (inl e) ↦ absurd (never_both p q m e x y)
      | inr (inr e) ↦ absurd (never_both q p m e y x)
    ]

-- the pair of a choice that has the meter, at its level
pub one_chosen : (r : ℕ) (C : List Proposal) (p q : Proposal) (m : ℕ) → Choice r C → p ∈ C → q ∈ C → level r p ≡ level r q →
    has p m ≡ true → has q m ≡ true → p ≡ q
one_chosen r C p q m h a b l x y =
    elim (pairwise_two (λ p q. level r p ≡ level r q → shares p q ≡ false) C p q h a b) [
      | inl e ↦ e
      | inr (inl e) ↦ absurd (never_both p q m (e l) x y)
      | inr (inr e) ↦ absurd (never_both q p m (e (sym l)) y x)
    ]
