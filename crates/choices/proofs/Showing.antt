-- A table of mates that shows a choice: what it says of the choice, and what joining and parting two meters do to it.
use Rattle.std.proofs.Common.{◌≡◌, ℕ, ◌<◌, true, false, eqb, ◌≢◌, ◌⊎◌, List, filter, sym, ap, ◌∙◌, subst, inl, inr, arith}
use Rattle.std.proofs.lemmas.Bool.{cases_Bool, eqb-true, eq-eqb, and_from}
use Rattle.proposals.specs.declared.proposals.Proposal.{Proposal}
use Rattle.proposals.proofs.Ladder.{level_bound}
use Rattle.matching.specs.Lists.{◌∈◌, Alike}
use Rattle.matching.specs.Matching.{level, has, other}
use Rattle.matching.specs.Canonical.{Ascending, joins}
use Rattle.matching.specs.Meanings.{ratio}
use Rattle.matching.specs.Rules.{blocked}
use Rattle.matching.proofs.Lists.{kept_by_in, in_kept_by}
use Rattle.matching.proofs.Pairs.{has_cases, other_low, other_high, share_at, shares_by}
use Rattle.matching.proofs.Order.{joins_self, one_open, one_list_of, picked_ascends}
use Rattle.matching.proofs.Blocked.{Good, in_way, way_blocks}
use Rattle.choices.specs.Mates.{mated}
use Rattle.choices.specs.Showing.{Shows}

-- the other meter of one of the two
other_is : (p : Proposal) (v : ℕ) → has p v ≡ true → ((p.low ≡ v) × (other p v ≡ p.high)) ⊎ ((p.high ≡ v) × (other p v ≡ p.low))
other_is p v h =
    elim (has_cases p v h) [
      | inl e ↦ inl (e, ap (other p) (sym e) ∙ other_low p)
      | inr e ↦ inr (e, ap (other p) (sym e) ∙ other_high p)
    ]

-- the pair that joins q's lower meter to its higher one is q's
pub same_meters : (p q : Proposal) → has p q.low ≡ true → other p q.low ≡ q.high → (p.low ≡ q.low) × (p.high ≡ q.high)
same_meters p q h e =
    elim (other_is p q.low h) [
      | inl x ↦ (x.0, sym x.1 ∙ e)
      | inr x ↦ absurd (omega (arith, x.0, x.1, e, p.apart, q.apart))
    ]

module _ (N : ℕ → ℕ → ℕ) (C : List Proposal) (s : Shows N C) where
  -- both meters of a chosen proposal have a mate at its level
  pub chosen_mated : (p : Proposal) (v : ℕ) → p ∈ C → has p v ≡ true → N (level ratio p) v ≡ v → ⊥
  chosen_mated p v m h e =
      let f = N (level ratio p) in
      elim (has_cases p v h) [
        | inl x ↦ omega (arith, x, ap f x, s.low p m, p.apart)
        | inr x ↦ omega (arith, x, ap f x, s.high p m, p.apart)
      ]

  -- the choice is what the table shows of the open ones
  pub shown : (opened : List Proposal) → Ascending opened → Good ratio opened C → ((p : Proposal) → p ∈ opened → p.high < 256) → filter (mated N) opened ≡ C
  shown opened up g few = one_list_of (filter (mated N) opened) C (picked_ascends (mated N) opened up) g.in_order alike
    where
      alike : Alike (filter (mated N) opened) C
      alike q = (
        λ m.
            let h = kept_by_in (mated N) opened q m in
            let e : N (level ratio q) q.low ≡ q.high = eqb-true (N (level ratio q) q.low) q.high h.1 in
            let w = s.only (level ratio q) q.low (level_bound ratio q.saving) (omega (arith, few q h.0, q.apart)) (λ x. omega (arith, q.apart)) in
            let p : Proposal = w.0 in
            let both = same_meters p q w.3 (w.4 ∙ e) in
            let for : joins q.low q.high p ≡ true = and_from (eqb p.low q.low) (eqb p.high q.high) (eq-eqb p.low q.low both.0) (eq-eqb p.high q.high both.1) in
            subst (λ (x : Proposal). x ∈ C) (one_open opened p q q.low q.high up (g.among p w.1) h.0 for (joins_self q)) w.1,
        λ m. in_kept_by (mated N) opened q (g.among q m) (eq-eqb (N (level ratio q) q.low) q.high (s.low q m)),
      )

  -- nothing is in the way of a proposal whose two meters are free, and something is in the way of any other
  pub free_unblocked : (p : Proposal) → N (level ratio p) p.low ≡ p.low → N (level ratio p) p.high ≡ p.high → blocked ratio C p ≡ false
  free_unblocked p a b =
      elim (cases_Bool (blocked ratio C p)) [
        | inl h ↦
            let w = in_way ratio C p h in
            let q : Proposal = w.0 in
            let at = share_at p q w.3 in
            let free : N (level ratio p) at.0 ≡ at.0 =
            elim (has_cases p at.0 at.1) [
              | inl x ↦ subst (λ (v : ℕ). N (level ratio p) v ≡ v) x a
              | inr x ↦ subst (λ (v : ℕ). N (level ratio p) v ≡ v) x b
            ]
            in
            absurd (chosen_mated q at.0 w.1 at.2 (ap (λ l. N l at.0) w.2 ∙ free))
        | inr h ↦ h
      ]

  pub mate_blocks : (p : Proposal) (v : ℕ) → has p v ≡ true → v < 256 → N (level ratio p) v ≢ v → blocked ratio C p ≡ true
  mate_blocks p v h lt ne =
      let w = s.only (level ratio p) v (level_bound ratio p.saving) lt ne in
      way_blocks ratio C p w.0 w.1 w.2 (shares_by p w.0 v h w.3)
