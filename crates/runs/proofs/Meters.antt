-- Lemmas on a pairing: who is whose partner, how many pairs there can be, and what they can save.
use Rattle.std.proofs.Common.{◌≡◌, ℕ, zero, suc, ◌*◌, ◌<◌, ◌≤◌, true, false, eqb, List, [], ◌∷◌, length, Some, None, Option, sym, refl, ap, ◌∙◌, subst, inl, inr, arith}
use Rattle.std.specs.Option.{option_map}
use Rattle.std.specs.List.{AllByRecursion as All}
use Rattle.std.proofs.ByRecursion.{sum_by_le}
use Rattle.std.proofs.lemmas.Bool.{both_ways, eqb-true, eq-eqb}
use Rattle.proposals.specs.declared.proposals.Proposal.{Proposal}
use Rattle.matching.specs.Lists.{◌∈◌, Pairwise}
use Rattle.matching.specs.Matching.{has, other, Pairing, total}
use Rattle.matching.specs.Canonical.{before, Ascending, partner_in}
use Rattle.matching.proofs.Lists.{first_only, first_nothing, pairwise_weaker, pigeon}
use Rattle.matching.proofs.Pairs.{has_low, has_high, other_low, other_high, never_both, one_pair}
use Rattle.matching.proofs.Alter.{below, in_below}
use Rattle.matching.proofs.Order.{before_cases, before_never}

-- partners
module _ (K : List Proposal) (v : ℕ) where
  partner_of_lem : (p : Proposal) → Pairing K → p ∈ K → has p v ≡ true → partner_in K v ≡ Some (other p v, p.saving)
  partner_of_lem p h m k =
      ap (option_map (λ (q : Proposal). (other q v, q.saving))) (first_only (λ q. has q v) K p m k (λ q n l. one_pair K q p v h n m l k))

  pub partner_none : ((p : Proposal) → p ∈ K → has p v ≡ false) → partner_in K v ≡ None
  partner_none h = ap (option_map (λ (q : Proposal). (other q v, q.saving))) (first_nothing (λ q. has q v) K (λ q m k. both_ways (has q v) (h q m) k))

pub partner_low : (K : List Proposal) (p : Proposal) → Pairing K → p ∈ K → partner_in K p.low ≡ Some (p.high, p.saving)
partner_low K p h m = partner_of_lem K p.low p h m (has_low p) ∙ ap {B = Option (ℕ × ℕ)} (λ (v : ℕ). Some (v, p.saving)) (other_low p)

pub partner_high : (K : List Proposal) (p : Proposal) → Pairing K → p ∈ K → partner_in K p.high ≡ Some (p.low, p.saving)
partner_high K p h m = partner_of_lem K p.high p h m (has_high p) ∙ ap {B = Option (ℕ × ℕ)} (λ (v : ℕ). Some (v, p.saving)) (other_high p)

-- at most half as many pairs as meters
abbrev meters : List Proposal → List ℕ
meters [] = []
meters (p ∷ ps) = p.low ∷ p.high ∷ meters ps

length_meters : (K : List Proposal) → length (meters K) ≡ 2 * length K
length_meters [] = refl
length_meters (p ∷ ps) = omega (arith, length_meters ps)

in_meters : (K : List Proposal) (v : ℕ) → v ∈ meters K → (p : Proposal) × (p ∈ K) × (has p v ≡ true)
in_meters [] v m = absurd m
in_meters (p ∷ ps) v (inl e) = (p, inl refl, subst (λ (x : ℕ). has p x ≡ true) (sym e) (has_low p))
in_meters (p ∷ ps) v (inr (inl e)) = (p, inl refl, subst (λ (x : ℕ). has p x ≡ true) (sym e) (has_high p))
in_meters (p ∷ ps) v (inr (inr m)) = let r = in_meters ps v m in (r.0, inr r.1, r.2)

meters_differ : (K : List Proposal) → Pairing K → Pairwise (λ x y. x ≡ y → ⊥) (meters K)
meters_differ [] h = tt
meters_differ (p ∷ ps) h = (
  λ y m e. elim m [ inl k ↦ omega (arith, p.apart) | inr n ↦ later y n (subst (λ (x : ℕ). has p x ≡ true) e (has_low p)) ],
  (λ y n e. later y n (subst (λ (x : ℕ). has p x ≡ true) e (has_high p)), meters_differ ps h.1),
)
  where
    later : (y : ℕ) → y ∈ meters ps → has p y ≡ true → ⊥
    later y n k = let r = in_meters ps y n in never_both p r.0 y (h.0 r.0 r.1) k r.2

-- the numbers below n
length_below : (n : ℕ) → length (below n) ≡ n
length_below zero = refl
length_below (suc n) = ap suc (length_below n)

pub few_pairs : (K : List Proposal) (n : ℕ) → Pairing K → ((p : Proposal) (v : ℕ) → p ∈ K → has p v ≡ true → v < n) → 2 * length K ≤ n
few_pairs K n h b =
    omega (
      arith,
      length_meters K,
      length_below n,
      pigeon eqb (meters K) (below n)
          (λ x m. let r = in_meters K x m in (x, in_below n x (b r.0 x r.1 r.2), eq-eqb x x refl))
          (λ y. pairwise_weaker (λ x z. x ≡ z → ⊥) (λ x z. eqb x y ≡ true → eqb z y ≡ true → ⊥) (meters K)
          (λ x z _ _ ne a c. ne (eqb-true x y a ∙ sym (eqb-true z y c))) (meters_differ K h)),
    )

-- what they save
all_limited : (K : List Proposal) → All (λ p. p.saving ≤ 1048575) K
all_limited [] = tt
all_limited (p ∷ ps) = (p.limited, all_limited ps)

pub total_bound : (K : List Proposal) → total K ≤ length K * 1048575
total_bound K = sum_by_le (λ p. p.saving) 1048575 K (all_limited K)

-- two kept pairs never have the same lower meter
pub rising : (K : List Proposal) → Ascending K → Pairing K → Pairwise (λ p q. p.low < q.low) K
rising K h pr =
    pairwise_weaker (λ p q. before p q ≡ true) (λ p q. p.low < q.low) K
    (λ p q m n b.
    elim (before_cases p q b) [
      | inl e ↦ e
      | inr e ↦
          let s = one_pair K p q p.low pr m n (has_low p) (subst (λ (x : ℕ). has q x ≡ true) (sym e.0) (has_low q)) in
          let c = subst (λ (y : Proposal). before p y ≡ true) (sym s) b in
          absurd (before_never p p c c)
    ])
    h
