-- A level that is cleared in a table of mates that shows a choice.
use Rattle.std.proofs.Common.{◌≡◌, ℕ, ◌<◌, not, eqb, ◌≢◌, List, sym, ap, ◌∙◌, ⊎_elim, arith}
use Rattle.std.proofs.lemmas.Bool.{cases_eq, cond-true, cond-false, eq-eqb, ne_eqb, eqb-false, not-true}
use Rattle.proposals.specs.declared.proposals.Proposal.{Proposal}
use Rattle.proposals.proofs.Ladder.{level_bound}
use Rattle.matching.specs.Lists.{◌∈◌, Alike}
use Rattle.matching.specs.Matching.{level}
use Rattle.matching.specs.Meanings.{ratio}
use Rattle.matching.proofs.Lists.{kept_by_in, in_kept_by}
use Rattle.choices.specs.Mates.{cleared}
use Rattle.choices.specs.Showing.{Shows, Small, elsewhere}

-- only the members of the choice matter
pub shows_alike : (N : ℕ → ℕ → ℕ) (C D : List Proposal) → Shows N C → Alike C D → Shows N D
shows_alike N C D s f = record {
  low = λ p m. s.low p ((f p).1 m);
  high = λ p m. s.high p ((f p).1 m);
  only = λ l v hl hv ne. let w = s.only l v hl hv ne in (w.0, (f w.0).0 w.1, w.2, w.3, w.4);
}

pub elsewhere_in : (l : ℕ) (C : List Proposal) (p : Proposal) → p ∈ elsewhere l C → (p ∈ C) × (level ratio p ≢ l)
elsewhere_in l C p m =
    let h = kept_by_in (λ q. not (eqb (level ratio q) l)) C p m in
    (h.0, eqb-false (level ratio p) l (not-true (eqb (level ratio p) l) h.1))

pub in_elsewhere : (l : ℕ) (C : List Proposal) (p : Proposal) → p ∈ C → level ratio p ≢ l → p ∈ elsewhere l C
in_elsewhere l C p m ne = in_kept_by (λ q. not (eqb (level ratio q) l)) C p m (ap not (ne_eqb (level ratio p) l ne))

pub shows_cleared : (N N' : ℕ → ℕ → ℕ) (l : ℕ) (C : List Proposal) → Shows N C → Small C →
    ((j u : ℕ) → j < 20 → u < 256 → N' j u ≡ cleared N l j u) → Shows N' (elsewhere l C)
shows_cleared N N' l C s small is = record {
  low = λ p m. let h = elsewhere_in l C p m in at p p.low h.1 (omega (arith, small p h.0, p.apart)) ∙ s.low p h.0;
  high = λ p m. let h = elsewhere_in l C p m in at p p.high h.1 (small p h.0) ∙ s.high p h.0;
  only = λ j v hj hv ne.
      ⊎_elim
      (λ e. absurd (ne (is j v hj hv ∙ cond-true (eqb j l) v (N j v) (eq-eqb j l e))))
      (λ e.
      let same : N' j v ≡ N j v = is j v hj hv ∙ cond-false (eqb j l) v (N j v) (ne_eqb j l e) in
      let w = s.only j v hj hv (λ x. ne (same ∙ x)) in
      (w.0, in_elsewhere l C w.0 w.1 (λ x. e (sym w.2 ∙ x)), w.2, w.3, w.4 ∙ sym same))
      (cases_eq j l);
}
  where
    at : (p : Proposal) (v : ℕ) → level ratio p ≢ l → v < 256 → N' (level ratio p) v ≡ N (level ratio p) v
    at p v ne lt = is (level ratio p) v (level_bound ratio p.saving) lt ∙ cond-false (eqb (level ratio p) l) v (N (level ratio p) v) (ne_eqb (level ratio p) l ne)
