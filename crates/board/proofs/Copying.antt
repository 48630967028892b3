-- A copy of a choice that holds what a keeper answers.
use Rattle.std.proofs.Common.{◌≡◌, ℕ, ◌<◌, true, eqb, ◌≢◌, Some, None, Option, unwrap_or, sym, refl, ap, ◌∙◌, inl, inr, arith}
use Rattle.std.proofs.lemmas.Bool.{cases_eq, eq-eqb, ne_eqb, cond-true, cond-false}
use Rattle.std.proofs.lemmas.Bool.Decides.{nat_tests}
use Rattle.proposals.specs.declared.proposals.Proposal.{Proposal}
use Rattle.matching.specs.Lists.{◌∈◌}
use Rattle.matching.specs.Matching.{level, has, other}
use Rattle.matching.specs.Meanings.{Meaning, Lawful, ratio, mate_of}
use Rattle.matching.proofs.Lists.{none_some}
use Rattle.matching.proofs.Pairs.{has_cases, has_low, has_high, other_low, other_high}
use Rattle.matching.proofs.Telling.{telling, mate_in_lem, no_mate_in}
use Rattle.choices.specs.Mates.{entry, mate_shown}
use Rattle.settling.specs.declared.kept_pairs.KeptPairs.{KeptPairs}
use Rattle.settling.specs.Kept.{Sound, Copies}
use Rattle.settling.specs.Following.{Involution, Follows}
use Rattle.settling.proofs.Bridge.{copies}
use Rattle.settling.proofs.Tables.{some_shown}
use Rattle.board.specs.Calls.{mate_or, Changes}

-- the other meter of a pair has this one for its other meter
turned : (p : Proposal) (v : ℕ) → has p v ≡ true → (has p (other p v) ≡ true) × (other p (other p v) ≡ v) × (other p v ≢ v)
turned p v h =
    elim (has_cases p v h) [
      | inl e ↦
          let o : other p v ≡ p.high = ap (other p) (sym e) ∙ other_low p in
          (ap (has p) o ∙ has_high p, ap (other p) o ∙ other_high p ∙ e, λ x. omega (arith, p.apart))
      | inr e ↦
          let o : other p v ≡ p.low = ap (other p) (sym e) ∙ other_high p in
          (ap (has p) o ∙ has_low p, ap (other p) o ∙ other_low p ∙ e, λ x. omega (arith, p.apart))
    ]

-- over a copy
module _ (m : Meaning) (k : KeptPairs) (h : Lawful m) (c : Copies k m.chosen) where
  shows_other : (p : Proposal) (v : ℕ) → p ∈ m.chosen → has p v ≡ true → entry k.choice (level ratio p) v ≡ other p v
  shows_other p v i x =
      elim (has_cases p v x) [
        | inl e ↦ ap (entry k.choice (level ratio p)) (sym e) ∙ c.shows.low p i ∙ sym (other_low p) ∙ ap (other p) e
        | inr e ↦ ap (entry k.choice (level ratio p)) (sym e) ∙ c.shows.high p i ∙ sym (other_high p) ∙ ap (other p) e
      ]

  -- the copy holds what the keeper answers
  pub holds_mate : (l v : ℕ) → l < 20 → v < 256 → entry k.choice l v ≡ mate_or m l v
  holds_mate l v hl hv =
      elim (cases_eq (entry k.choice l v) v) [
        | inl e ↦
            e ∙ sym (ap (λ o. unwrap_or o v) (no_mate_in ratio m.chosen v l
            (λ p i at x. (turned p v x).2 (sym (shows_other p v i x) ∙ ap (λ j. entry k.choice j v) at ∙ e))))
        | inr ne ↦
            let w = c.shows.only l v hl hv ne in
            sym w.4 ∙ sym (ap (λ o. unwrap_or o v) (mate_in_lem ratio m.chosen v l c.choice w.0 w.1 w.2 w.3))
      ]

-- a sound table that holds what the keeper answers is a copy
pub copied : (m : Meaning) → Lawful m → (k : KeptPairs) → Sound k → ((l v : ℕ) → l < 20 → v < 256 → entry k.choice l v ≡ mate_or m l v) →
    Copies k m.chosen
copied m h k s is = copies m h k s (λ v l hv hl. shown v l hv hl (mate_of m v l) refl)
  where
    none_shown : (N : ℕ → ℕ → ℕ) (v l : ℕ) → N l v ≡ v → mate_shown N v l ≡ None
    none_shown N v l e = grind (arith, nat_tests)

    shown : (v l : ℕ) → v < 256 → l < 20 → (o : Option ℕ) → mate_of m v l ≡ o → mate_shown (entry k.choice) v l ≡ o
    shown v l hv hl None e = none_shown (entry k.choice) v l (is l v hl hv ∙ ap (λ o. unwrap_or o v) e)
    shown v l hv hl (Some w) e =
        let p = (telling m h).mates v l w e in
        let x : entry k.choice l v ≡ w = is l v hl hv ∙ ap (λ o. unwrap_or o v) e in
        some_shown (entry k.choice) v l hv hl (λ y. (turned p.0 v p.3).2 (p.4 ∙ sym x ∙ y)) ∙ ap {B = Option ℕ} Some x

-- what a keeper answers at a level is a matching
pub matching : (m : Meaning) → Lawful m → (l : ℕ) (T : ℕ → ℕ) → ((v : ℕ) → v < 256 → T v ≡ mate_or m l v) → Involution T
matching m h l T is =
    record {
      inside = λ v hv. omega (arith, is v hv, inside v hv (mate_of m v l) refl);
      back = λ v hv.
          ap T (is v hv) ∙ is (mate_or m l v) (inside v hv (mate_of m v l) refl) ∙ back v (mate_of m v l) refl;
    }
  where
    inside : (v : ℕ) → v < 256 → (o : Option ℕ) → mate_of m v l ≡ o → unwrap_or o v < 256
    inside v hv None e = hv
    inside v hv (Some w) e =
        let p = (telling m h).mates v l w e in
        let b = h.inside p.0 (h.maximal.among p.0 p.1) in
        elim (has_cases p.0 w (ap (has p.0) (sym p.4) ∙ (turned p.0 v p.3).0)) [
          | inl x ↦ omega (arith, b, h.few, p.0.apart)
          | inr x ↦ omega (arith, b, h.few)
        ]

    back : (v : ℕ) (o : Option ℕ) → mate_of m v l ≡ o → mate_or m l (unwrap_or o v) ≡ v
    back v None e = ap (λ o. unwrap_or o v) e
    back v (Some w) e =
        let p = (telling m h).mates v l w e in
        let t = turned p.0 v p.3 in
        ap (λ o. unwrap_or o w) (mate_in_lem ratio m.chosen w l h.maximal.choice p.0 p.1 p.2 (ap (has p.0) (sym p.4) ∙ t.0))
        ∙ ap (other p.0) (sym p.4) ∙ t.1

-- where the choice stays, the keeper answers as before
same_mate : (m m' : Meaning) (l : ℕ) → Changes m l m' → (v j : ℕ) → j ≢ l → mate_of m v j ≡ mate_of m' v j
same_mate m m' l ch v j ne = go (mate_of m v j) refl
  where
    go : (o : Option ℕ) → mate_of m v j ≡ o → o ≡ mate_of m' v j
    go None e =
        sym (no_mate_in ratio m'.chosen v j
        (λ p i at x. none_some e (mate_in_lem ratio m.chosen v j ch.before.maximal.choice p ((ch.elsewhere p (λ y. ne (sym at ∙ y))).1 i) at x)))
    go (Some w) e =
        let p = (telling m ch.before).mates v j w e in
        ap {B = Option ℕ} Some (sym p.4)
        ∙ sym (mate_in_lem ratio m'.chosen v j ch.after.maximal.choice p.0 ((ch.elsewhere p.0 (λ y. ne (sym p.2 ∙ y))).0 p.1) p.2 p.3)

-- a table that follows the keeper at a level holds what the keeper answers there, and elsewhere what it held
pub followed_mate : (m : Meaning) (l : ℕ) (k k' : KeptPairs) (T : ℕ → ℕ) → ((v : ℕ) → v < 256 → T v ≡ mate_or m l v) → Follows k l T k' →
    (j v : ℕ) → j < 20 → v < 256 → (j ≢ l → entry k.choice j v ≡ mate_or m j v) → entry k'.choice j v ≡ mate_or m j v
followed_mate m l k k' T is f j v hj hv there =
    f.choice j v hj hv ∙
    elim (cases_eq j l) [
      | inl e ↦ cond-true (eqb j l) (T v) (entry k.choice j v) (eq-eqb j l e) ∙ is v hv ∙ ap (λ i. mate_or m i v) (sym e)
      | inr ne ↦ cond-false (eqb j l) (T v) (entry k.choice j v) (ne_eqb j l ne) ∙ there ne
    ]

-- a copy that follows the keeper at the level of a change is one of the new choice
pub follows_change : (m m' : Meaning) (l : ℕ) (k k' : KeptPairs) (T : ℕ → ℕ) → Changes m l m' → Copies k m.chosen →
    ((v : ℕ) → v < 256 → T v ≡ mate_or m' l v) → Follows k l T k' → Copies k' m'.chosen
follows_change m m' l k k' T ch c is f =
    copied m' ch.after k' f.sound
    (λ j v hj hv. followed_mate m' l k k' T is f j v hj hv
    (λ ne. holds_mate m k ch.before c j v hj hv ∙ ap (λ o. unwrap_or o v) (same_mate m m' l ch v j ne)))
