-- Proposals in order, with one more or one less at its place.
use Rattle.std.proofs.Common.{◌≡◌, ℕ, zero, suc, true, false, not, List, [], ◌∷◌, Some, None, sym, refl, ap, ◌∙◌, inl, inr, arith}
use Rattle.std.specs.List.{insert as inserted, remove}
use Rattle.std.proofs.lemmas.Bool.{cond-true, cond-false, or_parts}
use Rattle.std.proofs.lemmas.Bool.Decides.{nat_tests}
use Rattle.proposals.specs.declared.proposals.Proposal.{Proposal}
use Rattle.matching.specs.Lists.{first_of}
use Rattle.matching.specs.Canonical.{before, Ascending, insert, joins, is_for, without}
use Rattle.matching.proofs.Lists.{kept_by_all}
use Rattle.keepers.specs.Tables.{at, Lower, Higher, Stands, Gap}
use Rattle.keepers.proofs.Places.{at_in}

lower_apart : (p : Proposal) (a b : ℕ) → Lower p a b → joins a b p ≡ false
lower_apart p a b (inl h) = grind (arith, nat_tests)
lower_apart p a b (inr h) = grind (arith, nat_tests)

higher_apart : (p : Proposal) (a b : ℕ) → Higher p a b → joins a b p ≡ false
higher_apart p a b (inl h) = grind (arith, nat_tests)
higher_apart p a b (inr h) = grind (arith, nat_tests)

-- of two in order at most one is for a and b
apart_before : (p q : Proposal) (a b : ℕ) → before p q ≡ true → joins a b q ≡ true → joins a b p ≡ false
apart_before p q a b h k = grind (arith, nat_tests)

apart_after : (p q : Proposal) (a b : ℕ) → before p q ≡ true → joins a b p ≡ true → joins a b q ≡ false
apart_after p q a b h k = grind (arith, nat_tests)

-- the one that stands there is the first, and the only one
pub first_at : (ps : List Proposal) (a b i : ℕ) → Ascending ps → Stands ps a b i → first_of (joins a b) ps ≡ Some (at ps i)
first_at [] a b i up s = absurd (omega (arith, s.within))
first_at (p ∷ ps) a b zero up s = cond-true (joins a b p) _ _ s.here
first_at (p ∷ ps) a b (suc i) up s =
    cond-false (joins a b p) _ _ (apart_before p (at ps i) a b (up.0 (at ps i) (at_in ps i (omega (arith, s.within)))) s.here) ∙
    first_at ps a b i up.1 (record { within = omega (arith, s.within); here = s.here })

-- nothing stands in a gap
gap_tail : (p : Proposal) (ps : List Proposal) (a b i : ℕ) → Gap (p ∷ ps) a b (suc i) → Gap ps a b i
gap_tail p ps a b i g = record { within = omega (arith, g.within); before = λ k h. g.before (suc k) (omega arith); after = λ k h l. g.after (suc k) (omega arith) (omega arith) }

gap_head : (p : Proposal) (ps : List Proposal) (a b : ℕ) → Gap (p ∷ ps) a b 0 → Gap ps a b 0
gap_head p ps a b g = record { within = omega arith; before = λ k h. absurd (omega arith); after = λ k h l. g.after (suc k) (omega arith) (omega arith) }

pub gap_for : (ps : List Proposal) (a b i : ℕ) → Gap ps a b i → is_for a b ps ≡ false
gap_for [] a b i g = refl
gap_for (p ∷ ps) a b zero g = rw (higher_apart p a b (g.after 0 (omega arith) (omega arith))) (gap_for ps a b 0 (gap_head p ps a b g))
gap_for (p ∷ ps) a b (suc i) g = rw (lower_apart p a b (g.before 0 (omega arith))) (gap_for ps a b i (gap_tail p ps a b i g))

pub first_none : (ps : List Proposal) (a b : ℕ) → is_for a b ps ≡ false → first_of (joins a b) ps ≡ None
first_none [] a b h = refl
first_none (p ∷ ps) a b h =
    let e = or_parts (joins a b p) (is_for a b ps) h in cond-false (joins a b p) _ _ e.0 ∙ first_none ps a b e.1

-- a proposal that is put into its gap
lower_later : (p q : Proposal) → Lower q p.low p.high → before p q ≡ false
lower_later p q (inl h) = grind (arith, nat_tests)
lower_later p q (inr h) = grind (arith, nat_tests)

higher_sooner : (p q : Proposal) → Higher q p.low p.high → before p q ≡ true
higher_sooner p q (inl h) = grind (arith, nat_tests)
higher_sooner p q (inr h) = grind (arith, nat_tests)

pub inserted_is : (ps : List Proposal) (p : Proposal) (i : ℕ) → Gap ps p.low p.high i → inserted ps i p ≡ insert p ps
inserted_is [] p zero g = refl
inserted_is [] p (suc i) g = absurd (omega (arith, g.within))
inserted_is (q ∷ ps) p zero g = sym (cond-true (before p q) _ _ (higher_sooner p q (g.after 0 (omega arith) (omega arith))))
inserted_is (q ∷ ps) p (suc i) g =
    ap (λ qs. q ∷ qs) (inserted_is ps p i (gap_tail q ps p.low p.high i g)) ∙
    sym (cond-false (before p q) _ _ (lower_later p q (g.before 0 (omega arith))))

-- a proposal that is taken out
pub removed_is : (ps : List Proposal) (a b i : ℕ) → Ascending ps → Stands ps a b i → remove ps i ≡ without a b ps
removed_is [] a b i up s = absurd (omega (arith, s.within))
removed_is (p ∷ ps) a b zero up s = rw s.here (sym (kept_by_all (λ q. not (joins a b q)) ps (λ q m. ap not (apart_after p q a b (up.0 q m) s.here))))
removed_is (p ∷ ps) a b (suc i) up s =
    rw (apart_before p (at ps i) a b (up.0 (at ps i) (at_in ps i (omega (arith, s.within)))) s.here)
    (ap (λ qs. p ∷ qs) (removed_is ps a b i up.1 (record { within = omega (arith, s.within); here = s.here })))
