-- The patient rule keeps a maximal choice, and changes it at one level alone.
use Rattle.std.proofs.Common.{◌≡◌, ℕ, Bool, true, false, cond, not, ◌&&◌, eqb, List, [], ◌∷◌, Some, None, filter, Option, sym, refl, ap, ◌∙◌, subst, inl, inr}
use Rattle.std.proofs.lemmas.Bool.{both_ways, cases_Bool, and_parts, and_from, not-true, not_from_false, eqb-true, eq-eqb}
use Rattle.proposals.specs.declared.proposals.Proposal.{Proposal}
use Rattle.proposals.specs.declared.pairs.Pair.{Pair}
use Rattle.matching.specs.Lists.{◌∈◌, first_of}
use Rattle.matching.specs.Matching.{level, has, shares, same, Maximal, SameButAt}
use Rattle.matching.specs.Canonical.{Ascending, insert, joins, without}
use Rattle.matching.specs.Meanings.{Meaning, ratio, Lawful, put_refusal, take_refusal, Put, Take}
use Rattle.matching.specs.Rules.{blocked, patient_adds, patient_put, offers, nearer, nearest, chosen_too, rejoins, patient_loses, patient_take}
use Rattle.matching.specs.Keeping.{PatientKeeps, PatientIsPatient}
use Rattle.matching.proofs.Lists.{none_some, kept_by_in, in_kept_by, first_in, first_none, pairwise_kept_by}
use Rattle.matching.proofs.Pairs.{has_cases, share_at, shares_by, same_true, same_self}
use Rattle.matching.proofs.Order.{joins_true, joins_self, one_open, insert_in, in_insert, picked_ascends}
use Rattle.matching.proofs.Blocked.{InTheWay, Done, done_too, in_way, Good, good_more}
use Rattle.matching.proofs.Becoming.{lawful_holding, put_ready, taken, take_ready, ButFor, without_one}

good_of : (r : ℕ) (opened C more : List Proposal) → Ascending C → Maximal r opened C → ((p : Proposal) → p ∈ opened → p ∈ more) → Good r more C
good_of r opened C more up mx f = record { among = λ p m. f p (mx.among p m); in_order = up; choice = mx.choice }

-- put
module _ (r : ℕ) (opened C : List Proposal) (p : Proposal) (up : Ascending (insert p opened)) (up_c : Ascending C) (mx : Maximal r opened C) where
  adds : (b : Bool) → blocked r C p ≡ b → Ascending (cond b C (insert p C)) × Maximal r (insert p opened) (cond b C (insert p C))
  adds true e = (
    up_c,
    record {
      among = λ q m. in_insert p opened q (inr (mx.among q m));
      choice = mx.choice;
      none_left = λ q i.
          elim (insert_in p opened q i) [
            | inl x ↦ inr (subst (InTheWay r C) (sym x) (in_way r C p e))
            | inr k ↦ mx.none_left q k
          ];
    },
  )
  adds false e =
      let g = good_more r (insert p opened) C p up (in_insert p opened p (inl refl)) (good_of r opened C (insert p opened) up_c mx (λ q i. in_insert p opened q (inr i))) e in (
        g.in_order,
        record {
          among = g.among;
          choice = g.choice;
          none_left = λ q i.
              elim (insert_in p opened q i) [
                | inl x ↦ inl (in_insert p C q (inl x))
                | inr k ↦ done_too r C (insert p C) q (λ s m _. in_insert p C s (inr m)) (mx.none_left q k)
              ];
        },
      )

  adds_elsewhere : (b : Bool) → SameButAt r (level r p) C (cond b C (insert p C))
  adds_elsewhere true q ne = (λ m. m, λ m. m)
  adds_elsewhere false q ne = (λ m. in_insert p C q (inr m), λ m. elim (insert_in p C q m) [ inl x ↦ absurd (ne (ap (level r) x)) | inr k ↦ k ])

patient_puts : (m : Meaning) (p : Proposal) → Lawful m → put_refusal m p ≡ None → Put m p (patient_put m p)
patient_puts m p h accepted =
    let ready = put_ready m p h accepted in
    let b = blocked ratio m.chosen p in
    let a = adds ratio m.opened m.chosen p ready.ascending h.in_order h.maximal b refl in
    record {
      size = refl;
      capacity = refl;
      opens = refl;
      elsewhere = adds_elsewhere ratio m.opened m.chosen p ready.ascending h.in_order h.maximal b;
      lawful = lawful_holding m (insert p m.opened) (patient_adds ratio m.chosen p) h ready a.0 a.1;
    }

-- the nearest is one of the list, and there is one unless the list is empty
pub nearest_in : (v : ℕ) (ps : List Proposal) (p : Proposal) → nearest v ps ≡ Some p → p ∈ ps
nearest_in v [] p e = absurd (none_some refl e)
nearest_in v (q ∷ qs) p e = go (nearest v qs) (nearest_in v qs) e
  where
    pick : (b : Bool) (s : Proposal) → (s ∈ qs) → cond b (Some q) (Some s) ≡ Some p → p ∈ (q ∷ qs)
    pick true s m e = inl (cc)
    pick false s m e = inr (let x : s ≡ p = cc in subst (λ (y : Proposal). y ∈ qs) x m)

    go : (o : Option Proposal) → ((s : Proposal) → o ≡ Some s → s ∈ qs) → nearer v q o ≡ Some p → p ∈ (q ∷ qs)
    go None f e = inl (cc)
    go (Some s) f e = pick _ s (f s refl) e

nearest_none : (v : ℕ) (ps : List Proposal) (p : Proposal) → nearest v ps ≡ None → p ∈ ps → ⊥
nearest_none v [] p e m = m
nearest_none v (q ∷ qs) p e m = go (nearest v qs) e
  where
    pick : (b : Bool) (s : Proposal) → cond b (Some q) (Some s) ≡ None → ⊥
    pick true s e = none_some e refl
    pick false s e = none_some e refl

    go : (o : Option Proposal) → nearer v q o ≡ None → ⊥
    go None e = none_some e refl
    go (Some s) e = pick _ s e

pub offers_parts : (r : ℕ) (C : List Proposal) (l v : ℕ) (p : Proposal) → offers r C l v p ≡ true → (level r p ≡ l) × (has p v ≡ true) × (blocked r C p ≡ false)
unfolding offers
offers_parts r C l v p h =
    let a = and_parts (eqb (level r p) l) (has p v && not (blocked r C p)) h in
    let b = and_parts (has p v) (not (blocked r C p)) a.1 in
    (eqb-true (level r p) l a.0, b.0, not-true (blocked r C p) b.1)

offers_from : (r : ℕ) (C : List Proposal) (l v : ℕ) (p : Proposal) → level r p ≡ l → has p v ≡ true → blocked r C p ≡ false → offers r C l v p ≡ true
unfolding offers
offers_from r C l v p e h b =
    and_from (eqb (level r p) l) (has p v && not (blocked r C p)) (eq-eqb (level r p) l e)
    (and_from (has p v) (not (blocked r C p)) h (not_from_false (blocked r C p) b))

-- what joining v again does
record Rejoined (r : ℕ) (opened : List Proposal) (l v : ℕ) (C D : List Proposal) : Type 0 where
  good : Good r opened D
  keeps : (q : Proposal) → q ∈ C → q ∈ D
  new : (q : Proposal) → (level r q ≡ l → ⊥) → q ∈ D → q ∈ C
  done : (p : Proposal) → p ∈ opened → level r p ≡ l → has p v ≡ true → Done r D p

rejoined : (r : ℕ) (opened : List Proposal) (l v : ℕ) (C : List Proposal) → Ascending opened → Good r opened C → Rejoined r opened l v C (rejoins r opened l v C)
rejoined r opened l v C up g = go (nearest v (filter (offers r C l v) opened)) refl
  where
    still : (p : Proposal) → p ∈ opened → level r p ≡ l → has p v ≡ true → blocked r C p ≡ false → p ∈ filter (offers r C l v) opened
    still p i e h b = in_kept_by (offers r C l v) opened p i (offers_from r C l v p e h b)

    go : (o : Option Proposal) → nearest v (filter (offers r C l v) opened) ≡ o → Rejoined r opened l v C (chosen_too o C)
    go None e =
        record {
          good = g;
          keeps = λ q m. m;
          new = λ q ne m. m;
          done = λ p i f h.
              elim (cases_Bool (blocked r C p)) [
                | inl b ↦ inr (in_way r C p b)
                | inr b ↦ absurd (nearest_none v (filter (offers r C l v) opened) p e (still p i f h b))
              ];
        }
    go (Some q) e =
        let m = kept_by_in (offers r C l v) opened q (nearest_in v (filter (offers r C l v) opened) q e) in
        let o = offers_parts r C l v q m.1 in
        record {
          good = good_more r opened C q up m.0 g o.2;
          keeps = λ s i. in_insert q C s (inr i);
          new = λ s ne i. elim (insert_in q C s i) [ inl x ↦ absurd (ne (ap (level r) x ∙ o.0)) | inr k ↦ k ];
          done = λ p i f h. inr (q, in_insert q C q (inl refl), o.0 ∙ sym f, shares_by p q v h o.1);
        }

-- take
module _ (r : ℕ) (opened C rest : List Proposal) (q : Proposal) (upR : Ascending rest) (up_c : Ascending C)
    (mx : Maximal r opened C) (but : ButFor q opened rest) where
  -- q was not chosen
  lost_none : (q ∈ C → ⊥) → Maximal r rest C
  lost_none n =
      record {
        among = λ p m. (but p).1 (mx.among p m) (λ e. n (subst (λ (y : Proposal). y ∈ C) e m));
        choice = mx.choice;
        none_left = λ p m. mx.none_left p ((but p).0 m).0;
      }

  -- q was: first its lower meter is joined again, then its higher one
  lost : q ∈ C → Ascending (patient_loses r rest C (Some q)) × Maximal r rest (patient_loses r rest C (Some q)) × SameButAt r (level r q) C (patient_loses r rest C (Some q))
  lost c = (
    second.good.in_order,
    record { among = second.good.among; choice = second.good.choice; none_left = λ p m. left p m (mx.none_left p ((but p).0 m).0) },
    λ p ne. (
      λ m. second.keeps p (first.keeps p ((but_C p).1 m (λ e. ne (ap (level r) e)))),
      λ m. ((but_C p).0 (first.new p ne (second.new p ne m))).0,
    ),
  )
    where
      fewer : List Proposal
      fewer = without q.low q.high C

      but_C : ButFor q C fewer
      but_C = without_one C q q.low q.high up_c c (joins_self q)

      start : Good r rest fewer
      start =
          record {
            among = λ p m. (but p).1 (mx.among p ((but_C p).0 m).0) ((but_C p).0 m).1;
            in_order = picked_ascends (λ s. not (joins q.low q.high s)) C up_c;
            choice = pairwise_kept_by (λ p s. level r p ≡ level r s → shares p s ≡ false) (λ s. not (joins q.low q.high s)) C mx.choice;
          }

      once : List Proposal
      once = rejoins r rest (level r q) q.low fewer

      first : Rejoined r rest (level r q) q.low fewer once
      first = rejoined r rest (level r q) q.low fewer upR start

      second : Rejoined r rest (level r q) q.high once (rejoins r rest (level r q) q.high once)
      second = rejoined r rest (level r q) q.high once upR first.good

      -- what was in the way of p is still there, or it was q
      left : (p : Proposal) → p ∈ rest → Done r C p → Done r (rejoins r rest (level r q) q.high once) p
      left p m (inl k) = inl (second.keeps p (first.keeps p ((but_C p).1 k ((but p).0 m).1)))
      left p m (inr w) =
          elim (cases_Bool (same w.0 q)) [
            | inl e ↦
                let x = same_true w.0 q e in
                let l : level r p ≡ level r q = sym w.2 ∙ ap (level r) x in
                let s = share_at p q (subst (λ (y : Proposal). shares p y ≡ true) x w.3) in
                elim (has_cases q s.0 s.2) [
                  | inl y ↦
                      done_too r once (rejoins r rest (level r q) q.high once) p (λ z n _. second.keeps z n)
                      (first.done p m l (subst (λ (v : ℕ). has p v ≡ true) (sym y) s.1))
                  | inr y ↦ second.done p m l (subst (λ (v : ℕ). has p v ≡ true) (sym y) s.1)
                ]
            | inr e ↦
                let ne : w.0 ≡ q → ⊥ = λ x. both_ways (same w.0 q) e (subst (λ (y : Proposal). same w.0 y ≡ true) x (same_self w.0)) in
                inr (w.0, second.keeps w.0 (first.keeps w.0 ((but_C w.0).1 w.1 ne)), w.2, w.3)
          ]

  loses : (o : Option Proposal) → ((p : Proposal) → o ≡ Some p → (p ∈ C) × (p ≡ q)) → (o ≡ None → q ∈ C → ⊥) →
      Ascending (patient_loses r rest C o) × Maximal r rest (patient_loses r rest C o) × SameButAt r (level r q) C (patient_loses r rest C o)
  loses None f g = (up_c, lost_none (g refl), λ p ne. (λ m. m, λ m. m))
  loses (Some p) f g =
      let h = f p refl in
      subst (λ (y : Proposal). Ascending (patient_loses r rest C (Some y)) × Maximal r rest (patient_loses r rest C (Some y)) × SameButAt r (level r q) C (patient_loses r rest C (Some y)))
      (sym h.1) (lost (subst (λ (y : Proposal). y ∈ C) h.1 h.0))

patient_takes : (m : Meaning) (pair : Pair) → Lawful m → take_refusal m pair ≡ None → Take m pair (patient_take m pair)
patient_takes m pair h accepted =
    let a = pair.low in
    let b = pair.high in
    let q = taken m pair accepted in
    let ready = take_ready m a b h in
    let found = first_of (joins a b) m.chosen in
    let l = loses ratio m.opened m.chosen (without a b m.opened) q.0 ready.ascending h.in_order h.maximal
    (without_one m.opened q.0 a b h.ascending q.1 q.2) found
    (λ p e. let f = first_in (joins a b) m.chosen p e in
    (f.0, one_open m.opened p q.0 a b h.ascending (h.maximal.among p f.0) q.1 f.1 q.2))
    (λ e c. both_ways (joins a b q.0) (first_none (joins a b) m.chosen q.0 e c) q.2) in (
      q.0,
      q.1,
      q.2,
      record {
        size = refl;
        capacity = refl;
        opens = refl;
        elsewhere = l.2;
        lawful = lawful_holding m (without a b m.opened) (patient_loses ratio (without a b m.opened) m.chosen found) h ready l.0 l.1;
      },
    )

pub patient_keeps : PatientKeeps
patient_keeps m h = record { puts = λ p. patient_puts m p h; takes = λ pair. patient_takes m pair h }

-- patience
rejoins_keeps : (r : ℕ) (opened : List Proposal) (l v : ℕ) (C : List Proposal) (q : Proposal) → q ∈ C → q ∈ rejoins r opened l v C
rejoins_keeps r opened l v C q m = go (nearest v (filter (offers r C l v) opened))
  where
    go : (o : Option Proposal) → q ∈ chosen_too o C
    go None = m
    go (Some p) = in_insert p C q (inr m)

loses_keeps : (r : ℕ) (opened C : List Proposal) (o : Option Proposal) (q : Proposal) → q ∈ C →
    ((p : Proposal) → o ≡ Some p → joins p.low p.high q ≡ false) → q ∈ patient_loses r opened C o
loses_keeps r opened C None q m f = m
loses_keeps r opened C (Some p) q m f =
    rejoins_keeps r opened (level r p) p.high (rejoins r opened (level r p) p.low (without p.low p.high C)) q
    (rejoins_keeps r opened (level r p) p.low (without p.low p.high C) q
    (in_kept_by (λ s. not (joins p.low p.high s)) C q m (not_from_false (joins p.low p.high q) (f p refl))))

pub patient_is_patient : PatientIsPatient
patient_is_patient m =
    record {
      on_put = λ p q i. puts p q i (blocked ratio m.chosen p);
      on_take = λ pair q i e.
          loses_keeps ratio (without pair.low pair.high m.opened) m.chosen (first_of (joins pair.low pair.high) m.chosen) q i
          (λ p k. let f = joins_true pair.low pair.high p (first_in (joins pair.low pair.high) m.chosen p k).1 in rw (f.0, f.1) e);
    }
  where
    puts : (p q : Proposal) → q ∈ m.chosen → (b : Bool) → q ∈ cond b m.chosen (insert p m.chosen)
    puts p q i true = i
    puts p q i false = in_insert p m.chosen q (inr i)
