-- The patient rule, carried out on a table of mates that shows the choice.
use Rattle.std.proofs.Common.{◌≡◌, ℕ, ◌<◌, Bool, true, false, cond, not, ◌&&◌, ◌||◌, eqb, List, [], ◌∷◌, Some, None, filter, Option, sym, refl, ap, ◌∙◌, subst, inl, inr, MatchOption}
use Rattle.std.proofs.lemmas.Bool.{cond-true, cond-false, and_parts, both_ways}
use Rattle.proposals.specs.declared.proposals.Proposal.{Proposal}
use Rattle.matching.specs.Lists.{◌∈◌, first_of}
use Rattle.matching.specs.Matching.{level, has}
use Rattle.matching.specs.Canonical.{Ascending, insert, joins, without}
use Rattle.matching.specs.Meanings.{ratio}
use Rattle.matching.specs.Rules.{blocked, offers, nearest, rejoins, chosen_too}
use Rattle.matching.proofs.Lists.{kept_by_in, in_kept_by, first_in, first_only, first_nothing}
use Rattle.matching.proofs.Order.{insert_in, one_open, picked_ascends}
use Rattle.matching.proofs.Nearest.{first_is_nearest}
use Rattle.choices.specs.Mates.{both_free, mated, joined_if_free, parted_if_mated, offered}
use Rattle.choices.specs.Showing.{Shows}
use Rattle.choices.proofs.Adding.{HeldAlike, shows_same, both_free_lem, free_blocked}
use Rattle.choices.proofs.Joining.{shows_join, shows_part}

-- the first that passes one test is the first that passes another, if the members pass both or neither
first_alike : (t u : Proposal → Bool) (ps : List Proposal) → ((p : Proposal) → p ∈ ps → t p ≡ u p) → first_of t ps ≡ first_of u ps
first_alike t u [] h = refl
first_alike t u (p ∷ ps) h =
    ap (λ b. cond b (Some p) (first_of t ps)) (h p (inl refl)) ∙ ap (cond (u p) (Some p)) (first_alike t u ps (λ q m. h q (inr m)))

-- what the table offers is what the rule lets be joined
offered_is : (N : ℕ → ℕ → ℕ) (C : List Proposal) (l v : ℕ) (p : Proposal) → Shows N C → p.high < 256 → offered N l v p ≡ offers ratio C l v p
unfolding offers has
offered_is N C l v p s small =
    ap (λ b. has p v && (eqb (level ratio p) l && b)) (free_blocked N p small C s) ∙ swap (has p v) (eqb (level ratio p) l) (not (blocked ratio C p))
  where
    swap : (a b c : Bool) → (a && (b && c)) ≡ (b && (a && c))
    swap true true c = refl
    swap true false c = refl
    swap false true c = refl
    swap false false c = refl

-- a meter is joined, if it is free, to the smallest meter that offers
pub offer_is : (N : ℕ → ℕ → ℕ) (C opened : List Proposal) (l v : ℕ) → Shows N C → Ascending opened → ((p : Proposal) → p ∈ opened → p.high < 256) →
    first_of (offered N l v) opened ≡ nearest v (filter (offers ratio C l v) opened)
offer_is N C opened l v s up few =
    first_alike (offered N l v) (offers ratio C l v) opened (λ p m. offered_is N C l v p s (few p m)) ∙
    sym (first_is_nearest ratio l v C opened up)

pub shows_rejoins : (N N' : ℕ → ℕ → ℕ) (C opened : List Proposal) (l v : ℕ) → Shows N C → ((p : Proposal) → p ∈ C → p.high < 256) →
    Ascending opened → ((p : Proposal) → p ∈ opened → p.high < 256) → (o : Option Proposal) → first_of (offered N l v) opened ≡ o →
    MatchOption o (HeldAlike N N') (λ p. (j u : ℕ) → j < 20 → u < 256 → N' j u ≡ joined_if_free N p j u) →
    Shows N' (rejoins ratio opened l v C) × ((p : Proposal) → p ∈ rejoins ratio opened l v C → p.high < 256)
shows_rejoins N N' C opened l v s fewC up few None e is =
    let none : rejoins ratio opened l v C ≡ C = ap (λ o. chosen_too o C) (sym (offer_is N C opened l v s up few) ∙ e) in (
      subst (Shows N') (sym none) (shows_same N N' C s fewC is),
      subst (λ (D : List Proposal). (p : Proposal) → p ∈ D → p.high < 256) (sym none) fewC,
    )
shows_rejoins N N' C opened l v s fewC up few (Some p) e is =
    let some : rejoins ratio opened l v C ≡ insert p C = ap (λ o. chosen_too o C) (sym (offer_is N C opened l v s up few) ∙ e) in
    let i = first_in (offered N l v) opened p e in
    let small = few p i.0 in
    let a = and_parts (eqb p.low v || eqb p.high v) (eqb (level ratio p) l && both_free N p) i.1 in
    let b = and_parts (eqb (level ratio p) l) (both_free N p) a.1 in
    let f = both_free_lem N p small b.1 in (
      subst (Shows N') (sym some) (shows_join N N' C p s fewC small f.0 f.1 (λ j u hj hu. is j u hj hu ∙ cond-true (both_free N p) _ _ b.1)),
      subst (λ (D : List Proposal). (q : Proposal) → q ∈ D → q.high < 256) (sym some)
          (λ q m. elim (insert_in p C q m) [ inl x ↦ subst (λ (y : Proposal). y.high < 256) (sym x) small | inr k ↦ fewC q k ]),
    )

-- the proposal q that is open for a and b is the chosen one for them, if its meters are mates, and else none is
module _ (N : ℕ → ℕ → ℕ) (opened : List Proposal) (up : Ascending opened) (a b : ℕ) (q : Proposal) (was : first_of (joins a b) opened ≡ Some q) where
  it : (q ∈ opened) × (joins a b q ≡ true)
  it = first_in (joins a b) opened q was

  -- of those that the table of mates picks, only q is for a and b
  only : (p : Proposal) → p ∈ filter (mated N) opened → joins a b p ≡ true → (p ≡ q) × (mated N p ≡ true)
  only p m e = let k = kept_by_in (mated N) opened p m in (one_open opened p q a b up k.0 it.0 e it.1, k.1)

  pub chosen_one : mated N q ≡ true → (q ∈ filter (mated N) opened) × (first_of (joins a b) (filter (mated N) opened) ≡ Some q)
  chosen_one h =
      let m : q ∈ filter (mated N) opened = in_kept_by (mated N) opened q it.0 h in
      (m, first_only (joins a b) (filter (mated N) opened) q m it.1 (λ p n e. (only p n e).0))

  pub chosen_none : mated N q ≡ false → first_of (joins a b) (filter (mated N) opened) ≡ None
  chosen_none h =
      first_nothing (joins a b) (filter (mated N) opened)
      (λ p m e. let (same, k) = only p m e in both_ways (mated N q) h (ap (mated N) (sym same) ∙ k))

  -- it is chosen no more, and its meters are free
  module _ (N' : ℕ → ℕ → ℕ) (few : (p : Proposal) → p ∈ opened → p.high < 256) (s : Shows N (filter (mated N) opened)) (is : (j u : ℕ) → j < 20 → u < 256 → N' j u ≡ parted_if_mated N q j u) where
    few_chosen : (p : Proposal) → p ∈ filter (mated N) opened → p.high < 256
    few_chosen p m = few p (kept_by_in (mated N) opened p m).0

    pub shows_parted : mated N q ≡ true → Shows N' (without q.low q.high (filter (mated N) opened))
    shows_parted h =
        shows_part N N' (filter (mated N) opened) q s few_chosen (picked_ascends (mated N) opened up) (chosen_one h).0
        (λ j u hj hu. is j u hj hu ∙ cond-true (mated N q) _ _ h)

    pub shows_still : mated N q ≡ false → Shows N' (filter (mated N) opened)
    shows_still h = shows_same N N' (filter (mated N) opened) s few_chosen (λ j u hj hu. is j u hj hu ∙ cond-false (mated N q) _ _ h)
