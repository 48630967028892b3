-- Lists with the same members count and save the same.
use Rattle.std.proofs.Common.{◌≡◌, ◌≤◌, true, List, length, sym, ◌∙◌, subst, inl, inr, arith}
use Rattle.proposals.specs.declared.proposals.Proposal.{Proposal}
use Rattle.matching.specs.Lists.{◌∈◌, Pairwise, Distinct, Alike}
use Rattle.matching.specs.Matching.{same, total, changed}
use Rattle.matching.specs.Theorems.{StoredAnyhow}
use Rattle.matching.proofs.Lists.{pairwise_weaker, charge, pigeon}
use Rattle.matching.proofs.Pairs.{same_true, same_self}
use Rattle.matching.proofs.Alter.{changed_cases, changed_left, changed_right, pairwise_changed}

module _ (A B : List Proposal) (once : Distinct A) (f : (p : Proposal) → p ∈ A → p ∈ B) where
  apart : (y : Proposal) → Pairwise (λ p q. same p y ≡ true → same q y ≡ true → ⊥) A
  apart y =
      pairwise_weaker (λ p q. p ≡ q → ⊥) (λ p q. same p y ≡ true → same q y ≡ true → ⊥) A
      (λ p q _ _ ne a b. ne (same_true p y a ∙ sym (same_true q y b))) once

  no_longer : length A ≤ length B
  no_longer = pigeon same A B (λ p m. (p, f p m, same_self p)) apart

  saves_no_more : total A ≤ total B
  saves_no_more =
      charge same (λ (p : Proposal). p.saving) (λ (p : Proposal). p.saving) B A (λ p m. (p, f p m, same_self p, omega arith)) apart

counts : (A B : List Proposal) → Distinct A → Distinct B → Alike A B → (length A ≡ length B) × (total A ≡ total B)
counts A B a b h =
    let f : (p : Proposal) → p ∈ A → p ∈ B = λ p. (h p).0 in
    let g : (p : Proposal) → p ∈ B → p ∈ A = λ p. (h p).1 in (
      omega (arith, no_longer A B a f, no_longer B A b g),
      omega (arith, saves_no_more A B a f, saves_no_more B A b g),
    )

distinct_changed : (A B : List Proposal) → Distinct A → Distinct B → Distinct (changed A B)
distinct_changed A B a b =
    pairwise_changed (λ p q. p ≡ q → ⊥) A B a b (λ p q h k e. k.1 (subst (λ (x : Proposal). x ∈ A) e h.0))

changed_too : (A B A' B' : List Proposal) → Alike A A' → Alike B B' → (p : Proposal) → p ∈ changed A B → p ∈ changed A' B'
changed_too A B A' B' h k p m =
    elim (changed_cases A B p m) [
      | inl c ↦ changed_left A' B' p ((h p).0 c.0, λ i. c.1 ((k p).1 i))
      | inr c ↦ changed_right A' B' p ((k p).0 c.0, λ i. c.1 ((h p).1 i))
    ]

pub stored_anyhow : StoredAnyhow
stored_anyhow A B A' B' a b a' b' h k =
    let back : (X Y : List Proposal) → Alike X Y → Alike Y X = λ X Y l p. ((l p).1, (l p).0) in
    let same-ones = counts A A' a a' h in
    record {
      count = same-ones.0;
      saving = same-ones.1;
      difference =
          (counts (changed A B) (changed A' B') (distinct_changed A B a b) (distinct_changed A' B' a' b')
          (λ p. (changed_too A B A' B' h k p, changed_too A' B' A B (back A A' h) (back B B' k) p))).0;
    }
