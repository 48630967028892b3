-- Lemmas on the partners that a row shows.
use Rattle.std.proofs.Common.{◌≡◌, ℕ, true, false, List, ◌∷◌, Some, None, Option, unwrap_or, sym, refl, ap, ◌∙◌, inl, inr, arith}
use Rattle.std.specs.Option.{option_map}
use Rattle.std.proofs.lemmas.Bool.{both_ways, cond-true, cond-false}
use Rattle.proposals.specs.declared.proposals.Proposal.{Proposal}
use Rattle.matching.specs.Lists.{◌∈◌, Alike, first_of}
use Rattle.matching.specs.Matching.{has, other, Pairing}
use Rattle.matching.proofs.Lists.{first_in, first_none, first_only, first_nothing}
use Rattle.matching.proofs.Pairs.{has_cases, other_low, other_high, one_pair}
use Rattle.combining.specs.Partners.{partner_or}

-- the partner, once the first pair that has the meter is found
answer : ℕ → Option Proposal → ℕ
answer v found = unwrap_or (option_map (λ (a : ℕ × ℕ). a.0) (option_map (λ (p : Proposal). (other p v, p.saving)) found)) v

module _ (K : List Proposal) (v : ℕ) where
  pub partner_is : (p : Proposal) → Pairing K → p ∈ K → has p v ≡ true → partner_or K v ≡ other p v
  unfolding answer
  partner_is p h m e = ap (answer v) (first_only (λ q. has q v) K p m e (λ q n k. one_pair K q p v h n m k e))

  partner_none : ((p : Proposal) → p ∈ K → has p v ≡ true → ⊥) → partner_or K v ≡ v
  unfolding answer
  partner_none h = ap (answer v) (first_nothing (λ q. has q v) K h)

  -- what has a meter that is not its own partner
  pub partner_some : (partner_or K v ≡ v → ⊥) → (p : Proposal) × (p ∈ K) × (has p v ≡ true)
  partner_some ne = go (first_of (λ q. has q v) K) refl
    where
      go : (o : Option Proposal) → first_of (λ q. has q v) K ≡ o → (p : Proposal) × (p ∈ K) × (has p v ≡ true)
      go None e = absurd (ne (partner_none (λ p m h. both_ways (has p v) (first_none (λ q. has q v) K p e m) h)))
      go (Some p) e = let f = first_in (λ q. has q v) K p e in (p, f.0, f.1)

other_not : (p : Proposal) (v : ℕ) → has p v ≡ true → other p v ≡ v → ⊥
other_not p v h e =
    elim (has_cases p v h) [
      | inl x ↦ omega (arith, p.apart, other_low p, ap (other p) x)
      | inr x ↦ omega (arith, p.apart, other_high p, ap (other p) x)
    ]

-- a meter that is its own partner is in no pair
pub in_no_pair : (K : List Proposal) (p : Proposal) (v : ℕ) → Pairing K → partner_or K v ≡ v → p ∈ K → has p v ≡ true → ⊥
in_no_pair K p v h e m k = other_not p v k (sym (partner_is K v p h m k) ∙ e)

-- one more pair
pub partner_in_first : (K : List Proposal) (p : Proposal) (v : ℕ) → has p v ≡ true → partner_or (p ∷ K) v ≡ other p v
unfolding answer
partner_in_first K p v h = ap (answer v) (cond-true (has p v) (Some p) (first_of (λ q. has q v) K) h)

pub partner_in_rest : (K : List Proposal) (p : Proposal) (v : ℕ) → has p v ≡ false → partner_or (p ∷ K) v ≡ partner_or K v
unfolding answer
partner_in_rest K p v h = ap (answer v) (cond-false (has p v) (Some p) (first_of (λ q. has q v) K) h)

-- the same pairs have the same partners
pub same_partner : (A B : List Proposal) (v : ℕ) → Pairing A → Pairing B → Alike A B → partner_or A v ≡ partner_or B v
same_partner A B v ha hb alike = go (first_of (λ q. has q v) A) refl
  where
    go : (o : Option Proposal) → first_of (λ q. has q v) A ≡ o → partner_or A v ≡ partner_or B v
    go None e =
        let free : (p : Proposal) → p ∈ A → has p v ≡ true → ⊥ = λ p m h. both_ways (has p v) (first_none (λ q. has q v) A p e m) h in
        partner_none A v free ∙ sym (partner_none B v (λ p m h. free p ((alike p).1 m) h))
    go (Some p) e =
        let f = first_in (λ q. has q v) A p e in
        partner_is A v p ha f.0 f.1 ∙ sym (partner_is B v p hb ((alike p).0 f.0) f.1)
