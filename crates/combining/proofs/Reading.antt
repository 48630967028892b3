-- What a row that combining wrote tells of the kept pairs.
use Rattle.std.proofs.Common.{◌≡◌, ℕ, ◌<◌, ◌≤◌, true, eqb, List, ◌++◌, length, get_or, Some, None, Ok, Err, Option, Result, MatchResult, sym, refl, ap, ◌∙◌, subst, arith, length-append}
use Rattle.std.specs.Option.{option_map}
use Rattle.std.proofs.lemmas.List.{get_or_append_left}
use Rattle.std.proofs.lemmas.List.FromFn.{get_or-map-range_with_len, length-map-range_with_len}
use Rattle.std.specs.Result.{result_ok}
use Rattle.std.proofs.lemmas.Bool.{and_parts, eqb-true}
use Rattle.std.proofs.lemmas.Bool.Decides.{nat_tests}
use Rattle.proposals.specs.declared.proposals.Proposal.{Proposal}
use Rattle.proposals.specs.declared.refusals.Refusal.{Refusal}
use Rattle.proposals.specs.declared.pairs.Pair.{Pair}
use Rattle.proposals.specs.Making.{pair_refusal, proposal_refusal, Pairs, Proposes}
use Rattle.matching.specs.Lists.{◌∈◌, first_of}
use Rattle.matching.specs.Matching.{has, other, Settled}
use Rattle.matching.specs.Canonical.{joins}
use Rattle.matching.specs.Meanings.{Meaning, Lawful, ratio, kept_of, saving_of}
use Rattle.matching.proofs.Kept.{combining}
use Rattle.matching.proofs.Lists.{first_in, first_only, first_nothing}
use Rattle.matching.proofs.Pairs.{has_low, other_low, one_pair}
use Rattle.matching.proofs.Same.{same_parts}
use Rattle.matching.proofs.Telling.{telling}
use Rattle.combining.specs.Partners.{partner_or, partners, at_lower}
use Rattle.combining.proofs.Partners.{partner_is, partner_some}
use Rattle.combining.proofs.Steps.{mates_in_order}

module _ (m : Meaning) (lawful : Lawful m) (row rest : List ℕ) (is : row ≡ partners (kept_of m) m.size ++ rest) (v : ℕ) where
  settled : Settled ratio m.chosen (kept_of m)
  settled = combining ratio m.chosen lawful.maximal.choice

  opened : (p : Proposal) → p ∈ kept_of m → p ∈ m.opened
  opened p i = lawful.maximal.among p (settled.chosen p i)

  long : length (partners (kept_of m) m.size) ≡ m.size
  long = length-map-range_with_len (partner_or (kept_of m)) 0 m.size

  shown : v < m.size → get_or row v 0 ≡ partner_or (kept_of m) v
  shown lt =
      rw is (get_or_append_left (partners (kept_of m) m.size) rest 0 v (omega (arith, long)) ∙
      get_or-map-range_with_len (partner_or (kept_of m)) 0 m.size v v 0 lt (omega arith))

  -- where a proposal is kept, the row has its higher meter at its lower one, and its saving is told
  module _ (p : Proposal) (i : p ∈ kept_of m) (low : p.low ≡ v) where
    inside : v < m.size
    inside = omega (arith, p.apart, lawful.inside p (opened p i))

    has_it : has p v ≡ true
    has_it = subst (λ (x : ℕ). has p x ≡ true) low (has_low p)

    pub higher : get_or row v 0 ≡ p.high
    higher = shown inside ∙ partner_is (kept_of m) v p settled.pairing i has_it ∙ ap (other p) (sym low) ∙ other_low p

    pub within : v < length row
    within = rw is (simp length-append (omega (arith, inside, long)))

    pub saves : saving_of m v p.high ≡ Some p.saving
    saves = subst (λ (x : ℕ). saving_of m x p.high ≡ Some p.saving) low ((telling m lawful).saving p (opened p i))

    pub found : at_lower (kept_of m) v ≡ Some p
    found = first_only (λ q. eqb q.low v) (kept_of m) p i (grind (arith, nat_tests, low)) same
      where
        same : (q : Proposal) → q ∈ kept_of m → eqb q.low v ≡ true → q ≡ p
        same q j e = one_pair (kept_of m) q p v settled.pairing j i (subst (λ (x : ℕ). has q x ≡ true) (eqb-true q.low v e) (has_low q)) has_it

  pub none : ((p : Proposal) → p ∈ kept_of m → p.low ≡ v → ⊥) → None ≡ at_lower (kept_of m) v
  none lacks = sym (first_nothing (λ q. eqb q.low v) (kept_of m) (λ p i e. lacks p i (eqb-true p.low v e)))

  -- an open pair that the row shows at its lower meter is kept
  kept_here : (w s : ℕ) → v < w → get_or row v 0 ≡ w → saving_of m v w ≡ Some s → (p : Proposal) × (p ∈ kept_of m) × (p.low ≡ v) × (p.high ≡ w) × (p.saving ≡ s)
  kept_here w s lt at told =
      let (p, i, h) = partner_some (kept_of m) v (λ e. omega (arith, sym at ∙ shown inside_group ∙ e)) in
      let (low, high) = mates_in_order p v w h (sym (partner_is (kept_of m) v p settled.pairing i h) ∙ sym (shown inside_group) ∙ at) lt in
      let saved : Some p.saving ≡ Some s = sym (saves p i low) ∙ ap (saving_of m v) high ∙ told in
      (p, i, low, high, cc)
    where
      inside_group : v < m.size
      inside_group = go (first_of (joins v w) m.opened) refl told
        where
          go : (o : Option Proposal) → first_of (joins v w) m.opened ≡ o → option_map (λ p. p.saving) o ≡ Some s → v < m.size
          go None e t = cc
          go (Some q) e t =
              let (i, j) = first_in (joins v w) m.opened q e in
              let high : q.high ≡ w = eqb-true q.high w (and_parts (eqb q.low v) (eqb q.high w) j).1 in
              omega (arith, lawful.inside q i, high)

  -- and so it is the proposal that was made of it
  pub made : (w s : ℕ) → v < w → get_or row v 0 ≡ w → saving_of m v w ≡ Some s → (r : Result Proposal Refusal) →
      MatchResult r (λ q. (proposal_refusal v w s ≡ None) × Proposes q v w s) (λ e. proposal_refusal v w s ≡ Some e) →
      result_ok r ≡ at_lower (kept_of m) v
  made w s lt at told (Ok q) h =
      let (p, i, low, high, saving) = kept_here w s lt at told in
      let same : q ≡ p = same_parts q p (omega (arith, h.1.low, low)) (omega (arith, h.1.high, high)) (h.1.saving ∙ sym saving) in
      ap (λ x. Some x) same ∙ sym (found p i low)
  made w s lt at told (Err e) why =
      let (p, i, low, high, saving) = kept_here w s lt at told in
      let limited : (1 ≤ s) × (s ≤ 1048575) = (omega (arith, p.some, saving), omega (arith, p.limited, saving)) in
      absurd (grind (arith, nat_tests, limited.0, limited.1))

-- the pair of two meters, if it could be made
pub made_pair : (a b : ℕ) (r : Result Pair Refusal) (x : Pair) → result_ok r ≡ Some x → MatchResult r (λ p. (pair_refusal a b ≡ None) × Pairs p a b) (λ e. pair_refusal a b ≡ Some e) → Pairs x a b
made_pair a b (Ok y) x is h =
    let same : y ≡ x = cc in subst (λ (p : Pair). Pairs p a b) same h.1
made_pair a b (Err e) x is h = absurd (cc)
