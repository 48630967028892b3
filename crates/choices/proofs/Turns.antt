-- Proposals that are chosen in turn, carried out on a table of mates.
use Rattle.std.proofs.Common.{◌≡◌, ℕ, zero, suc, ◌+◌, ◌<◌, ◌≤◌, Bool, true, false, cond, eqb, ◌⊎◌, List, [], ◌∷◌, ◌++◌, length, get_or, take, sym, refl, ap, ◌∙◌, subst, inl, inr, arith}
use Rattle.std.proofs.lemmas.List.{take_more, take_all}
use Rattle.std.proofs.lemmas.Bool.{cases_Bool, cond-true, cond-false, eqb-true}
use Rattle.proposals.specs.declared.proposals.Proposal.{Proposal}
use Rattle.matching.specs.Lists.{◌∈◌}
use Rattle.matching.specs.Matching.{level}
use Rattle.matching.specs.Canonical.{insert}
use Rattle.matching.specs.Meanings.{ratio}
use Rattle.matching.specs.Rules.{blocked, patient_adds}
use Rattle.matching.proofs.Order.{insert_in}
use Rattle.choices.specs.Mates.{considered}
use Rattle.choices.specs.Showing.{Shows, Small, chosen_in_turn}
use Rattle.choices.proofs.Adding.{shows_same, shows_adds}

read_in : (ps : List Proposal) (i : ℕ) (p : Proposal) → i < length ps → p ≡ get_or ps i p → p ∈ ps
read_in [] i p lt e = absurd (omega arith)
read_in (q ∷ ps) zero p lt e = inl e
read_in (q ∷ ps) (suc i) p lt e = inr (read_in ps i p (omega arith) e)

take_in : (i : ℕ) (ps : List Proposal) (p : Proposal) → p ∈ take i ps → p ∈ ps
take_in zero ps p m = absurd m
take_in (suc i) [] p m = m
take_in (suc i) (q ∷ ps) p (inl e) = inl e
take_in (suc i) (q ∷ ps) p (inr m) = inr (take_in i ps p m)

-- one more in turn
abbrev next : ℕ → List Proposal → Proposal → List Proposal
next l D p = cond (eqb (level ratio p) l) (patient_adds ratio D p) D

turn_push : (l : ℕ) (C xs : List Proposal) (p : Proposal) → chosen_in_turn l C (xs ++ p ∷ []) ≡ next l (chosen_in_turn l C xs) p
turn_push l C [] p = refl
turn_push l C (x ∷ xs) p = turn_push l (next l C x) xs p

-- those that are chosen are among those that were and those that were gone through
pub next_in : (l : ℕ) (D : List Proposal) (p q : Proposal) → q ∈ next l D p → ((q ≡ p) × (level ratio p ≡ l)) ⊎ (q ∈ D)
next_in l D p q m = go (eqb (level ratio p) l) (blocked ratio D p) refl m
  where
    go : (b c : Bool) → eqb (level ratio p) l ≡ b → q ∈ cond b (cond c D (insert p D)) D → ((q ≡ p) × (level ratio p ≡ l)) ⊎ (q ∈ D)
    go true true e m = inr m
    go true false e m = elim (insert_in p D q m) [ inl x ↦ inl (x, eqb-true (level ratio p) l e) | inr k ↦ inr k ]
    go false c e m = inr m

small_next : (l : ℕ) (D : List Proposal) (p : Proposal) → Small D → p.high < 256 → Small (next l D p)
small_next l D p h small q m = elim (next_in l D p q m) [ inl x ↦ subst (λ (y : Proposal). y.high < 256) (sym x.0) small | inr k ↦ h q k ]

small_turn : (l : ℕ) (C xs : List Proposal) → Small C → Small xs → Small (chosen_in_turn l C xs)
small_turn l C [] h k = h
small_turn l C (x ∷ xs) h k = small_turn l (next l C x) xs (small_next l C x h (k x (inl refl))) (λ q m. k q (inr m))

shows_next : (N N' : ℕ → ℕ → ℕ) (l : ℕ) (D : List Proposal) (p : Proposal) → Shows N D → Small D → p.high < 256 →
    ((j u : ℕ) → j < 20 → u < 256 → N' j u ≡ considered N l p j u) → Shows N' (next l D p)
shows_next N N' l D p s h small is =
    elim (cases_Bool (eqb (level ratio p) l)) [
      | inl e ↦
          subst (Shows N') (sym (cond-true (eqb (level ratio p) l) (patient_adds ratio D p) D e))
          (shows_adds N N' D p s h small (λ j u hj hu. is j u hj hu ∙ cond-true (eqb (level ratio p) l) _ _ e))
      | inr e ↦
          subst (Shows N') (sym (cond-false (eqb (level ratio p) l) (patient_adds ratio D p) D e))
          (shows_same N N' D s h (λ j u hj hu. is j u hj hu ∙ cond-false (eqb (level ratio p) l) _ _ e))
    ]

-- a turn of the loop, and its end
pub turn_more : (N N' : ℕ → ℕ → ℕ) (l i : ℕ) (C ps : List Proposal) (p : Proposal) → i < length ps → p ≡ get_or ps i p → Small C → Small ps →
    Shows N (chosen_in_turn l C (take i ps)) → (p.high < 256 → (j u : ℕ) → j < 20 → u < 256 → N' j u ≡ considered N l p j u) →
    Shows N' (chosen_in_turn l C (take (i + 1) ps))
turn_more N N' l i C ps p lt is smallC small s holds =
    let one : take (i + 1) ps ≡ take i ps ++ p ∷ [] = take_more ps i p lt ∙ ap (λ y. take i ps ++ y ∷ []) (sym is) in
    let low : p.high < 256 = small p (read_in ps i p lt is) in
    subst (Shows N') (sym (ap (chosen_in_turn l C) one ∙ turn_push l C (take i ps) p))
    (shows_next N N' l (chosen_in_turn l C (take i ps)) p s (small_turn l C (take i ps) smallC (λ q m. small q (take_in i ps q m))) low (holds low))

pub turn_end : (N : ℕ → ℕ → ℕ) (l i : ℕ) (C ps : List Proposal) → length ps ≤ i → Shows N (chosen_in_turn l C (take i ps)) → Shows N (chosen_in_turn l C ps)
turn_end N l i C ps le s = subst (λ (qs : List Proposal). Shows N (chosen_in_turn l C qs)) (take_all i ps le) s
