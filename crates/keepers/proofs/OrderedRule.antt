-- The ordered rule, carried out at one level.
use Rattle.std.proofs.Common.{◌≡◌, ℕ, Bool, true, false, cond, eqb, ◌≢◌, ◌⊎◌, List, [], ◌∷◌, sym, refl, ap, ◌∙◌, inl, inr, ⊎_elim}
use Rattle.std.proofs.lemmas.Bool.{cases_Bool, cases_eq, both_ways, eqb-true, eqb-false}
use Rattle.proposals.specs.declared.proposals.Proposal.{Proposal}
use Rattle.matching.specs.Lists.{◌∈◌, Alike}
use Rattle.matching.specs.Matching.{level, SameButAt}
use Rattle.matching.specs.Canonical.{insert}
use Rattle.matching.specs.Meanings.{ratio}
use Rattle.matching.specs.Rules.{blocked, patient_adds, in_turn, ordered}
use Rattle.matching.proofs.Blocked.{in_way, way_blocks}
use Rattle.matching.proofs.Order.{insert_in, in_insert}
use Rattle.choices.specs.Showing.{chosen_in_turn, elsewhere}
use Rattle.choices.proofs.Clearing.{elsewhere_in, in_elsewhere}
use Rattle.choices.proofs.Turns.{next_in}

-- the two have the same members at level l
abbrev Agree : ℕ → List Proposal → List Proposal → Type 0
Agree l C E = (p : Proposal) → level ratio p ≡ l → (p ∈ C → p ∈ E) × (p ∈ E → p ∈ C)

-- and so the same is in the way of a proposal of that level
blocked_agree : (l : ℕ) (C E : List Proposal) (p : Proposal) → Agree l C E → level ratio p ≡ l → blocked ratio C p ≡ blocked ratio E p
blocked_agree l C E p f e =
    elim (cases_Bool (blocked ratio C p)) [
      | inl h ↦ let w = in_way ratio C p h in h ∙ sym (way_blocks ratio E p w.0 ((f w.0 (w.2 ∙ e)).0 w.1) w.2 w.3)
      | inr h ↦
          elim (cases_Bool (blocked ratio E p)) [
            | inl k ↦ let w = in_way ratio E p k in absurd (both_ways (blocked ratio C p) h (way_blocks ratio C p w.0 ((f w.0 (w.2 ∙ e)).1 w.1) w.2 w.3))
            | inr k ↦ h ∙ sym k
          ]
    ]

-- what is chosen in turn at level l is what was there, and what the rule chooses of that level
abbrev Chosen : ℕ → List Proposal → List Proposal → List Proposal → Proposal → Type 0
Chosen l C E ps p = (p ∈ chosen_in_turn l C ps → (p ∈ C) ⊎ (p ∈ in_turn ratio E ps)) × ((p ∈ C) ⊎ (p ∈ in_turn ratio E ps) → p ∈ chosen_in_turn l C ps)

module _ (l : ℕ) (p : Proposal) (at : level ratio p ≡ l) where
  turns : (ps C E : List Proposal) → Agree l C E → Chosen l C E ps p
  turns [] C E f = (λ m. inl m, λ x. elim x [ inl m ↦ m | inr m ↦ absurd m ])
  turns (q ∷ ps) C E f = go (turns ps) (eqb (level ratio q) l) refl (blocked ratio C q) refl (blocked ratio E q) refl
    where
      -- q is of another level
      apart : level ratio q ≢ l → p ≡ q → ⊥
      apart ne e = ne (ap (level ratio) (sym e) ∙ at)

      agree_more : level ratio q ≢ l → Agree l C (q ∷ E)
      agree_more ne r e = (λ m. inr ((f r e).0 m), λ x. elim x [ inl y ↦ absurd (ne (ap (level ratio) (sym y) ∙ e)) | inr m ↦ (f r e).1 m ])

      agree_both : Agree l (insert q C) (q ∷ E)
      agree_both r e = (
        λ m. elim (insert_in q C r m) [ inl y ↦ inl y | inr k ↦ inr ((f r e).0 k) ],
        λ x. elim x [ inl y ↦ in_insert q C r (inl y) | inr k ↦ in_insert q C r (inr ((f r e).1 k)) ],
      )

      go : ((C E : List Proposal) → Agree l C E → Chosen l C E ps p) → (a : Bool) → eqb (level ratio q) l ≡ a → (b : Bool) → blocked ratio C q ≡ b → (c : Bool) → blocked ratio E q ≡ c →
          (p ∈ chosen_in_turn l (cond a (cond b C (insert q C)) C) ps → (p ∈ C) ⊎ (p ∈ cond c (in_turn ratio E ps) (q ∷ in_turn ratio (q ∷ E) ps)))
          × ((p ∈ C) ⊎ (p ∈ cond c (in_turn ratio E ps) (q ∷ in_turn ratio (q ∷ E) ps)) → p ∈ chosen_in_turn l (cond a (cond b C (insert q C)) C) ps)
      go ih false ea b eb true ec = ih C E f
      go ih false ea b eb false ec =
          let ne = eqb-false (level ratio q) l ea in
          let t = ih C (q ∷ E) (agree_more ne) in (
            λ m. elim (t.0 m) [ inl k ↦ inl k | inr k ↦ inr (inr k) ],
            λ x. elim x [ inl k ↦ t.1 (inl k) | inr (inl e) ↦ absurd (apart ne e) | inr (inr k) ↦ t.1 (inr k) ],
          )
      go ih true ea true eb true ec = ih C E f
      go ih true ea true eb false ec = absurd (both_ways (blocked ratio E q) ec (sym (blocked_agree l C E q f (eqb-true (level ratio q) l ea)) ∙ eb))
      go ih true ea false eb true ec = absurd (both_ways (blocked ratio C q) eb (blocked_agree l C E q f (eqb-true (level ratio q) l ea) ∙ ec))
      go ih true ea false eb false ec =
          let t = ih (insert q C) (q ∷ E) agree_both in (
            λ m. elim (t.0 m) [
              | inl k ↦ elim (insert_in q C p k) [ inl e ↦ inr (inl e) | inr j ↦ inl j ]
              | inr k ↦ inr (inr k)
            ],
            λ x. elim x [
              | inl k ↦ t.1 (inl (in_insert q C p (inr k)))
              | inr (inl e) ↦ t.1 (inl (in_insert q C p (inl e)))
              | inr (inr k) ↦ t.1 (inr k)
            ],
          )

-- no other level changes
turn_elsewhere : (l : ℕ) (ps C : List Proposal) (p : Proposal) → level ratio p ≢ l → (p ∈ chosen_in_turn l C ps → p ∈ C) × (p ∈ C → p ∈ chosen_in_turn l C ps)
turn_elsewhere l [] C p ne = (λ m. m, λ m. m)
turn_elsewhere l (q ∷ ps) C p ne =
    let ih = turn_elsewhere l ps (cond (eqb (level ratio q) l) (patient_adds ratio C q) C) p ne in (
      λ m. elim (next_in l C q p (ih.0 m)) [ inl x ↦ absurd (ne (ap (level ratio) x.0 ∙ x.1)) | inr k ↦ k ],
      λ m. ih.1 (kept (eqb (level ratio q) l) (blocked ratio C q) m),
    )
  where
    kept : (a b : Bool) → p ∈ C → p ∈ cond a (cond b C (insert q C)) C
    kept true true m = m
    kept true false m = in_insert q C p (inr m)
    kept false b m = m

-- a choice that differs from the ordered one at most at level l becomes it, when that level is cleared and chosen anew in order
pub rechosen_is : (l : ℕ) (C opened : List Proposal) → SameButAt ratio l C (ordered ratio opened) → Alike (chosen_in_turn l (elsewhere l C) opened) (ordered ratio opened)
rechosen_is l C opened same p =
    ⊎_elim
    (λ e.
    let none : p ∈ elsewhere l C → ⊥ = λ m. (elsewhere_in l C p m).1 e in
    let t = turns l p e opened (elsewhere l C) [] (λ q k. (λ m. (elsewhere_in l C q m).1 k, λ m. absurd m)) in (
      λ m. elim (t.0 m) [ inl k ↦ absurd (none k) | inr k ↦ k ],
      λ m. t.1 (inr m),
    ))
    (λ ne.
    let t = turn_elsewhere l opened (elsewhere l C) p ne in (
      λ m. (same p ne).0 (elsewhere_in l C p (t.0 m)).0,
      λ m. t.1 (in_elsewhere l C p ((same p ne).1 m) ne),
    ))
    (cases_eq (level ratio p) l)
