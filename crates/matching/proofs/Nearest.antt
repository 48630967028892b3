-- Among proposals in canonical order that have a meter, the first joins it to the smallest other one.
use Rattle.std.proofs.Common.{◌≡◌, ℕ, ◌≤◌, Bool, true, false, cond, leb, List, [], ◌∷◌, Some, None, filter, Option, refl, arith}
use Rattle.std.proofs.lemmas.Bool.{le-leb, cond-true}
use Rattle.std.proofs.lemmas.Bool.Decides.{nat_tests}
use Rattle.proposals.specs.declared.proposals.Proposal.{Proposal}
use Rattle.matching.specs.Lists.{◌∈◌, first_of}
use Rattle.matching.specs.Matching.{has, other}
use Rattle.matching.specs.Canonical.{before}
use Rattle.matching.specs.Rules.{offers, nearer, nearest}
use Rattle.matching.specs.Keeping.{FirstIsNearest}
use Rattle.matching.proofs.Lists.{kept_by_in}
use Rattle.matching.proofs.Pairs.{has_cases}
use Rattle.matching.proofs.Order.{before_cases}
use Rattle.matching.proofs.Patient.{offers_parts, nearest_in}

other_rises : (p q : Proposal) (v : ℕ) → before p q ≡ true → has p v ≡ true → has q v ≡ true → other p v ≤ other q v
other_rises p q v b h k =
    let x = has_cases p v h in
    let y = has_cases q v k in
    let c = before_cases p q b in
    let s = p.apart in
    let t = q.apart in
    grind (arith, nat_tests)

nearest_first : (v : ℕ) (p : Proposal) (ps : List Proposal) → ((q : Proposal) → q ∈ ps → other p v ≤ other q v) → nearest v (p ∷ ps) ≡ Some p
nearest_first v p ps h = go (nearest v ps) (λ q e. h q (nearest_in v ps q e))
  where
    go : (o : Option Proposal) → ((q : Proposal) → o ≡ Some q → other p v ≤ other q v) → nearer v p o ≡ Some p
    go None f = refl
    go (Some q) f = cond-true (leb (other p v) (other q v)) (Some p) (Some q) (le-leb (other p v) (other q v) (f q refl))

pub first_is_nearest : FirstIsNearest
first_is_nearest r l v C [] up = refl
first_is_nearest r l v C (p ∷ ps) up = go (offers r C l v p) refl (first_is_nearest r l v C ps up.1)
  where
    go : (b : Bool) → offers r C l v p ≡ b → nearest v (filter (offers r C l v) ps) ≡ first_of (offers r C l v) ps →
        nearest v (cond b (p ∷ filter (offers r C l v) ps) (filter (offers r C l v) ps)) ≡ cond b (Some p) (first_of (offers r C l v) ps)
    go false e ih = ih
    go true e ih =
        nearest_first v p (filter (offers r C l v) ps)
        (λ q m. let k = kept_by_in (offers r C l v) ps q m in
        other_rises p q v (up.0 q k.0) (offers_parts r C l v p e).1 (offers_parts r C l v q k.1).1)
