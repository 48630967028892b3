-- A proposal is chosen if both its meters are free, carried out on a table of mates that shows the choice.
use Rattle.std.proofs.Common.{◌≡◌, ℕ, ◌<◌, true, false, not, eqb, ◌≢◌, ◌⊎◌, List, sym, ap, ◌∙◌, subst, inl, inr, arith}
use Rattle.std.proofs.lemmas.Bool.{cases_Bool, cond-true, cond-false, eqb-true, eqb-false, and_parts, not-false}
use Rattle.std.proofs.lemmas.Bool.Decides.{nat_tests}
use Rattle.proposals.specs.declared.proposals.Proposal.{Proposal}
use Rattle.proposals.proofs.Ladder.{level_bound}
use Rattle.matching.specs.Lists.{◌∈◌}
use Rattle.matching.specs.Matching.{level}
use Rattle.matching.specs.Canonical.{insert}
use Rattle.matching.specs.Meanings.{ratio}
use Rattle.matching.specs.Rules.{blocked, patient_adds}
use Rattle.matching.proofs.Pairs.{has_low, has_high}
use Rattle.choices.specs.Mates.{free_in, both_free, joined_if_free}
use Rattle.choices.specs.Showing.{Shows}
use Rattle.choices.proofs.Showing.{free_unblocked, mate_blocks}
use Rattle.choices.proofs.Joining.{shows_join}

-- the tables hold the same
abbrev pub HeldAlike : (ℕ → ℕ → ℕ) → (ℕ → ℕ → ℕ) → Type 0
HeldAlike N N' = (j u : ℕ) → j < 20 → u < 256 → N' j u ≡ N j u

pub shows_same : (N N' : ℕ → ℕ → ℕ) (C : List Proposal) → Shows N C → ((p : Proposal) → p ∈ C → p.high < 256) → HeldAlike N N' → Shows N' C
shows_same N N' C s few is = record {
  low = λ p m. is (level ratio p) p.low (level_bound ratio p.saving) (omega (arith, few p m, p.apart)) ∙ s.low p m;
  high = λ p m. is (level ratio p) p.high (level_bound ratio p.saving) (few p m) ∙ s.high p m;
  only = λ l v hl hv ne.
      let w = s.only l v hl hv (λ e. ne (is l v hl hv ∙ e)) in
      (w.0, w.1, w.2, w.3, w.4 ∙ sym (is l v hl hv));
}

free_is : (N : ℕ → ℕ → ℕ) (v l : ℕ) → v < 256 → l < 20 → free_in N v l ≡ eqb (N l v) v
free_is N v l hv hl = grind (arith, nat_tests)

module _ (N : ℕ → ℕ → ℕ) (p : Proposal) (small : p.high < 256) where
  low_is : free_in N p.low (level ratio p) ≡ eqb (N (level ratio p) p.low) p.low
  low_is = free_is N p.low (level ratio p) (omega (arith, p.apart)) (level_bound ratio p.saving)

  high_is : free_in N p.high (level ratio p) ≡ eqb (N (level ratio p) p.high) p.high
  high_is = free_is N p.high (level ratio p) small (level_bound ratio p.saving)

  pub both_free_lem : both_free N p ≡ true → (N (level ratio p) p.low ≡ p.low) × (N (level ratio p) p.high ≡ p.high)
  both_free_lem h =
      let e = and_parts (free_in N p.low (level ratio p)) (free_in N p.high (level ratio p)) h in (
        eqb-true (N (level ratio p) p.low) p.low (sym low_is ∙ e.0),
        eqb-true (N (level ratio p) p.high) p.high (sym high_is ∙ e.1),
      )

  not_both : both_free N p ≡ false → (N (level ratio p) p.low ≢ p.low) ⊎ (N (level ratio p) p.high ≢ p.high)
  not_both h =
      elim (cases_Bool (free_in N p.low (level ratio p))) [
        | inr a ↦ inl (eqb-false (N (level ratio p) p.low) p.low (sym low_is ∙ a))
        | inl a ↦
            let b : free_in N p.high (level ratio p) ≡ false = rw a at h in
            inr (eqb-false (N (level ratio p) p.high) p.high (sym high_is ∙ b))
      ]

  -- whether both meters are free is whether nothing is in the way
  pub free_blocked : (C : List Proposal) → Shows N C → both_free N p ≡ not (blocked ratio C p)
  free_blocked C s =
      elim (cases_Bool (both_free N p)) [
        | inl h ↦ let f = both_free_lem h in h ∙ ap not (sym (free_unblocked N C s p f.0 f.1))
        | inr h ↦
            let b : blocked ratio C p ≡ true =
            elim (not_both h) [
              | inl x ↦ mate_blocks N C s p p.low (has_low p) (omega (arith, p.apart)) x
              | inr x ↦ mate_blocks N C s p p.high (has_high p) small x
            ]
            in
            h ∙ ap not (sym b)
      ]

-- a new proposal is chosen if both its meters are free
pub shows_adds : (N N' : ℕ → ℕ → ℕ) (C : List Proposal) (p : Proposal) → Shows N C → ((q : Proposal) → q ∈ C → q.high < 256) → p.high < 256 →
    ((j u : ℕ) → j < 20 → u < 256 → N' j u ≡ joined_if_free N p j u) → Shows N' (patient_adds ratio C p)
shows_adds N N' C p s few small is =
    elim (cases_Bool (both_free N p)) [
      | inl h ↦
          let f = both_free_lem N p small h in
          let chosen : patient_adds ratio C p ≡ insert p C = cond-false (blocked ratio C p) C (insert p C) (free_unblocked N C s p f.0 f.1) in
          subst (Shows N') (sym chosen)
          (shows_join N N' C p s few small f.0 f.1 (λ j u hj hu. is j u hj hu ∙ cond-true (both_free N p) _ _ h))
      | inr h ↦
          let b : blocked ratio C p ≡ true = not-false (blocked ratio C p) (sym (free_blocked N p small C s) ∙ h) in
          let left : patient_adds ratio C p ≡ C = cond-true (blocked ratio C p) C (insert p C) b in
          subst (Shows N') (sym left) (shows_same N N' C s few (λ j u hj hu. is j u hj hu ∙ cond-false (both_free N p) _ _ h))
    ]
