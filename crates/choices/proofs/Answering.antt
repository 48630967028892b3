-- What the table of mates answers is what the keeper means.
use Rattle.std.proofs.Common.{◌≡◌, ℕ, ◌<◌, ◌≤◌, ◌≢◌, ◌⊎◌, Some, None, Option, sym, refl, ap, ◌∙◌, subst, inl, inr, ⊎_elim, arith}
use Rattle.std.proofs.lemmas.Bool.{cases_lt, cases_eq}
use Rattle.std.proofs.lemmas.Bool.Decides.{nat_tests}
use Rattle.proposals.specs.declared.proposals.Proposal.{Proposal}
use Rattle.matching.specs.Matching.{level, other}
use Rattle.matching.specs.Meanings.{Meaning, ratio, Lawful, mate_of}
use Rattle.matching.proofs.Pairs.{has_cases, other_low, other_high}
use Rattle.matching.proofs.Telling.{telling}
use Rattle.choices.specs.Mates.{mate_shown}
use Rattle.choices.specs.Showing.{Shows}
use Rattle.choices.proofs.Showing.{chosen_mated}

shown_mate : (N : ℕ → ℕ → ℕ) (v l : ℕ) → v < 256 → l < 20 → N l v ≢ v → mate_shown N v l ≡ Some (N l v)
shown_mate N v l hv hl ne = grind (arith, nat_tests)

shown_free : (N : ℕ → ℕ → ℕ) (v l : ℕ) → N l v ≡ v → mate_shown N v l ≡ None
shown_free N v l e = grind (arith, nat_tests)

shown_outside : (N : ℕ → ℕ → ℕ) (v l : ℕ) → (256 ≤ v) ⊎ (20 ≤ l) → mate_shown N v l ≡ None
shown_outside N v l (inl h) = grind (arith, nat_tests)
shown_outside N v l (inr h) = grind (arith, nat_tests)

module _ (m : Meaning) (h : Lawful m) (N : ℕ → ℕ → ℕ) (s : Shows N m.chosen) where
  meant_mate : (v l : ℕ) → l < 20 → v < 256 → N l v ≢ v → mate_of m v l ≡ Some (N l v)
  meant_mate v l hl hv ne =
      let w = s.only l v hl hv ne in
      let p : Proposal = w.0 in
      let t = telling m h in
      let at : mate_of m v (level ratio p) ≡ Some (other p v) =
      elim (has_cases p v w.3) [
        | inl e ↦ subst (λ (u : ℕ). mate_of m u (level ratio p) ≡ Some (other p u)) e (t.low p w.1 ∙ ap (λ u. Some u) (sym (other_low p)))
        | inr e ↦ subst (λ (u : ℕ). mate_of m u (level ratio p) ≡ Some (other p u)) e (t.high p w.1 ∙ ap (λ u. Some u) (sym (other_high p)))
      ]
      in
      ap (mate_of m v) (sym w.2) ∙ at ∙ ap (λ u. Some u) w.4

  meant_free : (v l : ℕ) → N l v ≡ v → (o : Option ℕ) → mate_of m v l ≡ o → o ≡ None
  meant_free v l e None is = refl
  meant_free v l e (Some w) is =
      let t = (telling m h).mates v l w is in
      absurd (chosen_mated N m.chosen s t.0 v t.1 t.3 (ap (λ k. N k v) t.2 ∙ e))

  pub mate_is : (v l : ℕ) → mate_shown N v l ≡ mate_of m v l
  mate_is v l =
      ⊎_elim
      (λ hv. ⊎_elim
      (λ hl. ⊎_elim
      (λ e. shown_free N v l e ∙ sym (meant_free v l e (mate_of m v l) refl))
      (λ ne. shown_mate N v l hv hl ne ∙ sym (meant_mate v l hl hv ne))
      (cases_eq (N l v) v))
      (λ hl. shown_outside N v l (inr hl) ∙ sym ((telling m h).beyond v l hl))
      (cases_lt l 20))
      (λ hv. shown_outside N v l (inl hv) ∙ sym ((telling m h).outside v l (omega (arith, h.few))))
      (cases_lt v 256)
