-- The rule of combining has one answer, level by level from above.
use Rattle.std.proofs.Common.{◌≡◌, ℕ, zero, suc, ◌+◌, ◌<◌, ◌≤◌, true, List, ap, inl, inr, zero-le, arith}
use Rattle.proposals.specs.declared.proposals.Proposal.{Proposal}
use Rattle.proposals.proofs.Ladder.{level_bound}
use Rattle.matching.specs.Lists.{◌∈◌, Alike}
use Rattle.matching.specs.Matching.{shares, level, Pairing, Choice, Settled, kept}
use Rattle.matching.proofs.Pairs.{share_at, one_pair}
use Rattle.matching.proofs.Kept.{combining}

-- two pairs of different levels in one pairing share no meter
pub cannot_share : (r : ℕ) (K : List Proposal) (p q : Proposal) → Pairing K → p ∈ K → q ∈ K → level r p < level r q → shares p q ≡ true → ⊥
cannot_share r K p q h m n lt s =
    let w = share_at p q s in
    omega (arith, ap (level r) (one_pair K p q w.0 h m n w.1 w.2))

-- p is kept of C; it is kept of C' too, if it is chosen there, and what is kept there above it is kept of C
pub kept_too : (r : ℕ) (C C' A B : List Proposal) (p : Proposal) → Settled r C A → Settled r C' B → p ∈ A → p ∈ C' →
    ((q : Proposal) → level r p < level r q → q ∈ B → q ∈ A) → p ∈ B
kept_too r C C' A B p sa sb m n ih =
    elim (sb.every p n) [
      | inl k ↦ k
      | inr w ↦ absurd (cannot_share r A p w.0 sa.pairing m (ih w.0 w.2 w.1) w.2 w.3)
    ]

module _ (r from : ℕ) (C C' A B : List Proposal)
    (alike : (p : Proposal) → from ≤ level r p → (p ∈ C → p ∈ C') × (p ∈ C' → p ∈ C))
    (sa : Settled r C A) (sb : Settled r C' B) where
  settled_alike : (n : ℕ) (p : Proposal) → from ≤ level r p → 20 ≤ level r p + n → (p ∈ A → p ∈ B) × (p ∈ B → p ∈ A)
  settled_alike zero p f h = absurd (omega (arith, level_bound r p.saving))
  settled_alike (suc n) p f h = (
    λ m. kept_too r C C' A B p sa sb m ((alike p f).0 (sa.chosen p m)) (λ q k. (settled_alike n q (omega arith) (omega arith)).1),
    λ m. kept_too r C' C B A p sb sa m ((alike p f).1 (sb.chosen p m)) (λ q k. (settled_alike n q (omega arith) (omega arith)).0),
  )

  -- choices that agree from a level on are settled alike from there on
  pub same_above : (p : Proposal) → from ≤ level r p → (p ∈ A → p ∈ B) × (p ∈ B → p ∈ A)
  same_above p f = settled_alike 20 p f (omega arith)

pub kept_alike : (r : ℕ) (C M : List Proposal) → Choice r C → Settled r C M → Alike M (kept r C)
kept_alike r C M ch s p = same_above r 0 C C M (kept r C) (λ q _. (λ m. m, λ m. m)) s (combining r C ch) p zero-le
