-- Lemmas on lists that ascend: what is put in at its place and what is taken out.
use Rattle.std.proofs.Common.{◌≡◌, ℕ, suc, ◌<◌, Bool, true, false, cond, ◌&&◌, eqb, ltb, ◌⊎◌, List, [], ◌∷◌, length, filter, sym, refl, ap, ◌∙◌, subst, inl, inr, arith}
use Rattle.std.proofs.lemmas.Bool.{or_cases, or_parts, and_parts, and_from, eqb-true, eq-eqb, ltb-true}
use Rattle.std.proofs.lemmas.Bool.Decides.{nat_tests}
use Rattle.matching.specs.Lists.{◌∈◌, Alike, Pairwise}
use Rattle.matching.specs.Matching.{stays, kept_from, kept}
use Rattle.matching.specs.Theorems.{OneAnswerToEach}
use Rattle.matching.proofs.Answer.{kept_alike}
use Rattle.proposals.specs.declared.proposals.Proposal.{Proposal}
use Rattle.matching.proofs.Lists.{pairwise_two, pairwise_kept_by}
use Rattle.matching.specs.Canonical.{before, Ascending, insert, joins, is_for}

-- the order
pub before_cases : (p q : Proposal) → before p q ≡ true → (p.low < q.low) ⊎ ((p.low ≡ q.low) × (p.high < q.high))
before_cases p q h =
    elim (or_cases (ltb p.low q.low) (eqb p.low q.low && ltb p.high q.high) h) [
      | inl e ↦ inl (ltb-true p.low q.low e)
      | inr e ↦
          let a = and_parts (eqb p.low q.low) (ltb p.high q.high) e in
          inr (eqb-true p.low q.low a.0, ltb-true p.high q.high a.1)
    ]

pub before_trans : (p q r : Proposal) → before p q ≡ true → before q r ≡ true → before p r ≡ true
before_trans p q r h k = grind (arith, nat_tests)

pub before_never : (p q : Proposal) → before p q ≡ true → before q p ≡ true → ⊥
before_never p q h k = elim (before_cases p q h) [
  | inl a ↦ elim (before_cases q p k) [ inl b ↦ omega arith | inr b ↦ omega arith ]
  | inr a ↦ elim (before_cases q p k) [ inl b ↦ omega arith | inr b ↦ omega arith ]
]

pub before_other : (p q : Proposal) → before p q ≡ false → joins p.low p.high q ≡ false → before q p ≡ true
before_other p q h k = grind (arith, nat_tests)

pub before_two : (p q : Proposal) → before p q ≡ true → p.low ≡ q.low → p.high ≡ q.high → ⊥
before_two p q h a b = elim (before_cases p q h) [ inl e ↦ omega arith | inr e ↦ omega arith ]

pub joins_true : (a b : ℕ) (q : Proposal) → joins a b q ≡ true → (q.low ≡ a) × (q.high ≡ b)
joins_true a b q h = let e = and_parts (eqb q.low a) (eqb q.high b) h in (eqb-true q.low a e.0, eqb-true q.high b e.1)

pub joins_self : (p : Proposal) → joins p.low p.high p ≡ true
joins_self p = and_from (eqb p.low p.low) (eqb p.high p.high) (eq-eqb p.low p.low refl) (eq-eqb p.high p.high refl)

-- of two members that are the same pair
pub one_open : (ps : List Proposal) (p q : Proposal) (a b : ℕ) → Ascending ps → p ∈ ps → q ∈ ps → joins a b p ≡ true → joins a b q ≡ true → p ≡ q
one_open ps p q a b h m n x y =
    let u = joins_true a b p x in
    let v = joins_true a b q y in
    elim (pairwise_two (λ p q. before p q ≡ true) ps p q h m n) [
      | inl e ↦ e
      | inr (inl e) ↦ absurd (before_two p q e (u.0 ∙ sym v.0) (u.1 ∙ sym v.1))
      | inr (inr e) ↦ absurd (before_two q p e (v.0 ∙ sym u.0) (v.1 ∙ sym u.1))
    ]

-- what is put in at its place
module _ (p : Proposal) where
  pub insert_in : (qs : List Proposal) (r : Proposal) → r ∈ insert p qs → (r ≡ p) ⊎ (r ∈ qs)
  insert_in [] r m = m
  insert_in (q ∷ qs) r m = go (before p q) m (insert_in qs r)
    where
      go : (b : Bool) → r ∈ cond b (p ∷ q ∷ qs) (q ∷ insert p qs) → (r ∈ insert p qs → (r ≡ p) ⊎ (r ∈ qs)) → (r ≡ p) ⊎ (r ∈ (q ∷ qs))
      go true m ih = m
      go false (inl e) ih = inr (inl e)
      go false (inr m) ih = elim (ih m) [ inl e ↦ inl e | inr k ↦ inr (inr k) ]

  pub in_insert : (qs : List Proposal) (r : Proposal) → (r ≡ p) ⊎ (r ∈ qs) → r ∈ insert p qs
  in_insert [] r m = m
  in_insert (q ∷ qs) r m = go (before p q) m (in_insert qs r)
    where
      go : (b : Bool) → (r ≡ p) ⊎ (r ∈ (q ∷ qs)) → ((r ≡ p) ⊎ (r ∈ qs) → r ∈ insert p qs) → r ∈ cond b (p ∷ q ∷ qs) (q ∷ insert p qs)
      go true m ih = m
      go false (inl e) ih = inr (ih (inl e))
      go false (inr (inl e)) ih = inl e
      go false (inr (inr k)) ih = inr (ih (inr k))

  pub insert_length : (qs : List Proposal) → length (insert p qs) ≡ suc (length qs)
  insert_length [] = refl
  insert_length (q ∷ qs) = go (before p q) (insert_length qs)
    where
      go : (b : Bool) → length (insert p qs) ≡ suc (length qs) → length (cond b (p ∷ q ∷ qs) (q ∷ insert p qs)) ≡ suc (suc (length qs))
      go true ih = refl
      go false ih = ap suc ih

  pub insert_ascending : (qs : List Proposal) → Ascending qs → is_for p.low p.high qs ≡ false → Ascending (insert p qs)
  insert_ascending [] h k = (λ r m. absurd m, tt)
  insert_ascending (q ∷ qs) h k =
      let a = or_parts (joins p.low p.high q) (is_for p.low p.high qs) k in
      go (before p q) refl a.0 (insert_ascending qs h.1 a.1)
    where
      go : (b : Bool) → before p q ≡ b → joins p.low p.high q ≡ false → Ascending (insert p qs) → Ascending (cond b (p ∷ q ∷ qs) (q ∷ insert p qs))
      go true e k ih = (
        λ r m. elim m [ inl x ↦ subst (λ (y : Proposal). before p y ≡ true) (sym x) e | inr n ↦ before_trans p q r e (h.0 r n) ],
        h,
      )
      go false e k ih = (
        λ r m. elim (insert_in qs r m) [ inl x ↦ subst (λ (y : Proposal). before q y ≡ true) (sym x) (before_other p q e k) | inr n ↦ h.0 r n ],
        ih,
      )

pub pairwise_insert : (R : Proposal → Proposal → Type 0) (p : Proposal) (qs : List Proposal) → Pairwise R qs →
    ((q : Proposal) → q ∈ qs → R p q) → ((q : Proposal) → q ∈ qs → R q p) → Pairwise R (insert p qs)
pairwise_insert R p [] h f g = (λ r m. absurd m, tt)
pairwise_insert R p (q ∷ qs) h f g = go (before p q) (pairwise_insert R p qs h.1 (λ r m. f r (inr m)) (λ r m. g r (inr m)))
  where
    go : (b : Bool) → Pairwise R (insert p qs) → Pairwise R (cond b (p ∷ q ∷ qs) (q ∷ insert p qs))
    go true ih = (f, h)
    go false ih = (
      λ r m. elim (insert_in p qs r m) [ inl e ↦ subst (λ (y : Proposal). R q y) (sym e) (g q (inl refl)) | inr n ↦ h.0 r n ],
      ih,
    )

-- what a test does not pick
pub insert_kept_by : (t : Proposal → Bool) (p : Proposal) (qs : List Proposal) → t p ≡ false → filter t (insert p qs) ≡ filter t qs
insert_kept_by t p [] e = rw e
insert_kept_by t p (q ∷ qs) e = go (before p q) (t q) refl (insert_kept_by t p qs e)
  where
    go : (b c : Bool) → t q ≡ c → filter t (insert p qs) ≡ filter t qs →
        filter t (cond b (p ∷ q ∷ qs) (q ∷ insert p qs)) ≡ cond c (q ∷ filter t qs) (filter t qs)
    go true c f ih = rw (e, f)
    go false true f ih = rw f (ap (λ (ys : List Proposal). q ∷ ys) ih)
    go false false f ih = rw f ih

-- two lists that ascend and have the same members are one
pub one_list_of : (ps qs : List Proposal) → Ascending ps → Ascending qs → Alike ps qs → ps ≡ qs
one_list_of [] [] h k f = refl
one_list_of [] (q ∷ qs) h k f = absurd ((f q).1 (inl refl))
one_list_of (p ∷ ps) [] h k f = absurd ((f p).0 (inl refl))
one_list_of (p ∷ ps) (q ∷ qs) h k f =
    let e = heads ((f p).0 (inl refl)) ((f q).1 (inl refl)) in
    let t = one_list_of ps qs h.1 k.1 (λ r. (λ m. rest_f e r m ((f r).0 (inr m)), λ m. rest_g e r m ((f r).1 (inr m)))) in
    λ i. e i ∷ t i
  where
    heads : p ∈ (q ∷ qs) → q ∈ (p ∷ ps) → p ≡ q
    heads (inl e) n = e
    heads (inr m) (inl e) = sym e
    heads (inr m) (inr n) = absurd (before_never p q (h.0 q n) (k.0 p m))

    rest_f : p ≡ q → (r : Proposal) → r ∈ ps → r ∈ (q ∷ qs) → r ∈ qs
    rest_f e r m (inl x) = let b = subst (λ (y : Proposal). before p y ≡ true) (x ∙ sym e) (h.0 r m) in absurd (before_never p p b b)
    rest_f e r m (inr n) = n

    rest_g : p ≡ q → (r : Proposal) → r ∈ qs → r ∈ (p ∷ ps) → r ∈ ps
    rest_g e r m (inl x) = let b = subst (λ (y : Proposal). before q y ≡ true) (x ∙ e) (k.0 r m) in absurd (before_never q q b b)
    rest_g e r m (inr n) = n

-- a part that a test picks ascends too
pub picked_ascends : (t : Proposal → Bool) (ps : List Proposal) → Ascending ps → Ascending (filter t ps)
picked_ascends t ps h = pairwise_kept_by (λ p q. before p q ≡ true) t ps h

pub kept_ascends : (r : ℕ) (C : List Proposal) → Ascending C → Ascending (kept r C)
unfolding kept kept_from
kept_ascends r C h = picked_ascends (stays r (kept_from r C 19 1) 0) C h

pub one_answer : OneAnswerToEach
one_answer r C M ch st =
    let alike = kept_alike r C M ch st in
    record { members = alike; list = λ up up_m. one_list_of M (kept r C) up_m (kept_ascends r C up) alike }
