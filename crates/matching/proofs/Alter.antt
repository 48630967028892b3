-- The alteration limit. The meters that are covered from a level on in one outcome alone do not become more as the level falls.
use Rattle.std.proofs.Common.{◌≡◌, ℕ, zero, suc, ◌+◌, ◌-◌, ◌*◌, ◌<◌, ◌≤◌, Bool, true, false, not, ◌&&◌, ◌||◌, eqb, ltb, leb, ◌⊎◌, List, [], ◌∷◌, length, sum_by, filter, sym, refl, ap, ◌∙◌, subst, inl, inr, arith}
use Rattle.std.proofs.lemmas.Bool.{both_ways, cases_Bool, cases_lt, cases_eq, and_parts, and_from, or_cases, or_left, or_right, or_from, or_parts, not-true, not_from_false, eqb-true, eq-eqb, lt-ltb, leb-true, le-leb}
use Rattle.std.specs.List.{flat_map}
use Rattle.proposals.specs.declared.proposals.Proposal.{Proposal}
use Rattle.matching.specs.Lists.{◌∈◌, Pairwise, any}
use Rattle.matching.specs.Matching.{has, shares, same, is_in, level, Choice, Pairing, Settled, SameButAt, kept, changed, altered}
use Rattle.matching.specs.Theorems.{Alteration}
use Rattle.matching.proofs.Lists.{any_member, any_true, kept_by_in, in_kept_by, kept_by_all, in_append, append_left, append_right, pairwise_kept_by, pairwise_weaker, pairwise_append, member_le, pigeon, in_joined, length_below, by_levels}
use Rattle.matching.proofs.Pairs.{has_cases, share_at, shares_self, never_both, one_pair, one_chosen, two_only, same_true, same_self, not_in, isnt_in}
use Rattle.matching.proofs.Kept.{combining}
use Rattle.matching.proofs.Answer.{kept_too, same_above}

-- the numbers below n
abbrev pub below : ℕ → List ℕ
below zero = []
below (suc n) = n ∷ below n

below_in : (n v : ℕ) → v ∈ below n → v < n
below_in zero v m = absurd m
below_in (suc n) v (inl e) = omega arith
below_in (suc n) v (inr m) = omega (arith, below_in n v m)

pub in_below : (n v : ℕ) → v < n → v ∈ below n
in_below zero v h = absurd (omega arith)
in_below (suc n) v h = elim (cases_eq v n) [ inl e ↦ inl e | inr e ↦ inr (in_below n v (omega arith)) ]

below_distinct : (n : ℕ) → Pairwise (λ (v w : ℕ). v ≡ w → ⊥) (below n)
below_distinct zero = tt
below_distinct (suc n) = (λ v m e. omega (arith, below_in n v m), below_distinct n)

-- what changed
abbrev pub OnlyIn : List Proposal → List Proposal → Proposal → Type 0
OnlyIn A B p = (p ∈ A) × (p ∈ B → ⊥)

pub changed_cases : (A B : List Proposal) (p : Proposal) → p ∈ changed A B → OnlyIn A B p ⊎ OnlyIn B A p
changed_cases A B p m =
    elim (in_append (filter (λ p. not (is_in B p)) A) (filter (λ p. not (is_in A p)) B) p m) [
      | inl k ↦ let h = kept_by_in (λ p. not (is_in B p)) A p k in inl (h.0, not_in B p (not-true (is_in B p) h.1))
      | inr k ↦ let h = kept_by_in (λ p. not (is_in A p)) B p k in inr (h.0, not_in A p (not-true (is_in A p) h.1))
    ]

pub changed_left : (A B : List Proposal) (p : Proposal) → OnlyIn A B p → p ∈ changed A B
changed_left A B p h =
    append_left (filter (λ p. not (is_in B p)) A) (filter (λ p. not (is_in A p)) B) p
    (in_kept_by (λ p. not (is_in B p)) A p h.0 (not_from_false (is_in B p) (isnt_in B p h.1)))

pub changed_right : (A B : List Proposal) (p : Proposal) → OnlyIn B A p → p ∈ changed A B
changed_right A B p h =
    append_right (filter (λ p. not (is_in B p)) A) (filter (λ p. not (is_in A p)) B) p
    (in_kept_by (λ p. not (is_in A p)) B p h.0 (not_from_false (is_in A p) (isnt_in A p h.1)))

pub pairwise_changed : (R : Proposal → Proposal → Type 0) (A B : List Proposal) → Pairwise R A → Pairwise R B →
    ((p q : Proposal) → OnlyIn A B p → OnlyIn B A q → R p q) → Pairwise R (changed A B)
pairwise_changed R A B a b c =
    pairwise_append R (filter (λ p. not (is_in B p)) A) (filter (λ p. not (is_in A p)) B)
    (pairwise_kept_by R (λ p. not (is_in B p)) A a) (pairwise_kept_by R (λ p. not (is_in A p)) B b)
    (λ p q m n.
    let h = kept_by_in (λ p. not (is_in B p)) A p m in
    let k = kept_by_in (λ p. not (is_in A p)) B q n in
    c p q (h.0, not_in B p (not-true (is_in B p) h.1)) (k.0, not_in A q (not-true (is_in A q) k.1)))

-- the meter is covered by a pair of K of level j or above
covers : ℕ → ℕ → List Proposal → ℕ → Bool
covers r j K v = any (λ p. has p v && leb j (level r p)) K

covered_by : (r j : ℕ) (K : List Proposal) (v : ℕ) (p : Proposal) → p ∈ K → has p v ≡ true → j ≤ level r p → covers r j K v ≡ true
unfolding covers
covered_by r j K v p m h le =
    any_true (λ p. has p v && leb j (level r p)) K p m (and_from (has p v) (leb j (level r p)) h (le-leb j (level r p) le))

coverer : (r j : ℕ) (K : List Proposal) (v : ℕ) → covers r j K v ≡ true → (p : Proposal) × (p ∈ K) × (has p v ≡ true) × (j ≤ level r p)
unfolding covers
coverer r j K v h =
    let w = any_member (λ p. has p v && leb j (level r p)) K h in
    let a = and_parts (has w.0 v) (leb j (level r w.0)) w.2 in
    (w.0, w.1, a.0, leb-true j (level r w.0) a.1)

uncovered : (r j : ℕ) (K : List Proposal) (v : ℕ) → ((p : Proposal) → p ∈ K → has p v ≡ true → j ≤ level r p → ⊥) → covers r j K v ≡ false
uncovered r j K v h =
    elim (cases_Bool (covers r j K v))
    [ inl e ↦ let w = coverer r j K v e in absurd (h w.0 w.1 w.2 w.3) | inr e ↦ e ]

-- .. in A and not in B, or in exactly one of them
abbrev CoveredOnly : ℕ → ℕ → List Proposal → List Proposal → ℕ → Type 0
CoveredOnly r j A B v = (covers r j A v ≡ true) × (covers r j B v ≡ false)

lone : ℕ → ℕ → List Proposal → List Proposal → ℕ → Bool
lone r j A B v = (covers r j A v && not (covers r j B v)) || (covers r j B v && not (covers r j A v))

module _ (r j : ℕ) (A B : List Proposal) (v : ℕ) where
  lone_cases : lone r j A B v ≡ true → CoveredOnly r j A B v ⊎ CoveredOnly r j B A v
  unfolding lone
  lone_cases h =
      elim (or_cases (covers r j A v && not (covers r j B v)) (covers r j B v && not (covers r j A v)) h) [
        | inl e ↦ let a = and_parts (covers r j A v) (not (covers r j B v)) e in inl (a.0, not-true (covers r j B v) a.1)
        | inr e ↦ let a = and_parts (covers r j B v) (not (covers r j A v)) e in inr (a.0, not-true (covers r j A v) a.1)
      ]

  lone_left : CoveredOnly r j A B v → lone r j A B v ≡ true
  unfolding lone
  lone_left h =
      or_left (covers r j A v && not (covers r j B v)) (covers r j B v && not (covers r j A v))
      (and_from (covers r j A v) (not (covers r j B v)) h.0 (not_from_false (covers r j B v) h.1))

  lone_right : CoveredOnly r j B A v → lone r j A B v ≡ true
  unfolding lone
  lone_right h =
      or_right (covers r j A v && not (covers r j B v)) (covers r j B v && not (covers r j A v))
      (and_from (covers r j B v) (not (covers r j A v)) h.0 (not_from_false (covers r j A v) h.1))

  not_lone : covers r j A v ≡ true → covers r j B v ≡ true → lone r j A B v ≡ false
  not_lone a b =
      elim (cases_Bool (lone r j A B v)) [
        | inl e ↦ elim (lone_cases e) [ inl h ↦ absurd (both_ways (covers r j B v) h.1 b) | inr h ↦ absurd (both_ways (covers r j A v) h.1 a) ]
        | inr e ↦ e
      ]

  lone_sym : lone r j A B v ≡ false → lone r j B A v ≡ false
  unfolding lone
  lone_sym h = or_from (covers r j B v && not (covers r j A v)) (covers r j A v && not (covers r j B v)) (or_parts (covers r j A v && not (covers r j B v)) (covers r j B v && not (covers r j A v)) h).1 (or_parts (covers r j A v && not (covers r j B v)) (covers r j B v && not (covers r j A v)) h).0

-- one side: what is kept in A and not in B
module _ (r l : ℕ) (C C' A B : List Proposal) (alike : SameButAt r l C C') (sa : Settled r C A) (sb : Settled r C' B) where
  above : (p : Proposal) → l < level r p → (p ∈ A → p ∈ B) × (p ∈ B → p ∈ A)
  above = same_above r (suc l) C C' A B (λ p f. alike p (omega arith)) sa sb

  not_above : (p : Proposal) → OnlyIn A B p → level r p ≤ l
  not_above p h = elim (cases_lt l (level r p)) [ inl k ↦ absurd (h.1 ((above p k).0 h.0)) | inr k ↦ k ]

  -- at level l itself, only a pair that went is no longer kept
  went : (p : Proposal) → OnlyIn A B p → level r p ≡ l → OnlyIn C C' p
  went p h e = (sa.chosen p h.0, λ n. h.1 (kept_too r C C' A B p sa sb h.0 n (λ q lt. (above q (omega arith)).1)))

  -- below it, a meter of the pair is newly covered from above
  cause : (p : Proposal) → OnlyIn A B p → level r p < l → (y : ℕ) × (has p y ≡ true) × CoveredOnly r (suc (level r p)) B A y
  cause p h lt =
      elim (sb.every p ((alike p (omega arith)).0 (sa.chosen p h.0))) [
        | inl k ↦ absurd (h.1 k)
        | inr w ↦
            let s = share_at p w.0 w.3 in (
              s.0,
              s.1,
              (
                covered_by r (suc (level r p)) B s.0 w.0 w.1 s.2 w.2,
                uncovered r (suc (level r p)) A s.0
                    (λ k m x le. omega (arith, ap (level r) (one_pair A p k s.0 sa.pairing h.0 m s.1 x))),
              ),
            )
      ]

  -- a meter that is covered in A alone from level j on, and was not from the next one on, is of a pair of level j that is in A alone
  newly : (j v : ℕ) → CoveredOnly r j A B v → lone r (suc j) A B v ≡ false →
      (p : Proposal) × OnlyIn A B p × (has p v ≡ true) × (level r p ≡ j)
  newly j v h n =
      let w = coverer r j A v h.0 in
      let no_b : covers r (suc j) B v ≡ false =
      uncovered r (suc j) B v (λ p m x le. both_ways (covers r j B v) h.1 (covered_by r j B v p m x (omega arith))) in
      let lv : level r w.0 ≡ j =
      elim (cases_lt j (level r w.0)) [
        | inl k ↦ absurd (both_ways (lone r (suc j) A B v) n (lone_left r (suc j) A B v (covered_by r (suc j) A v w.0 w.1 w.2 k, no_b)))
        | inr k ↦ omega (arith, w.3)
      ] in
      (w.0, (w.1, λ m. both_ways (covers r j B v) h.1 (covered_by r j B v w.0 m w.2 w.3)), w.2, lv)

  lone_went : (v : ℕ) → CoveredOnly r l A B v → (p : Proposal) × OnlyIn C C' p × (has p v ≡ true)
  lone_went v h =
      let w = coverer r l A v h.0 in
      let o : OnlyIn A B w.0 = (w.1, λ m. both_ways (covers r l B v) h.1 (covered_by r l B v w.0 m w.2 w.3)) in
      (w.0, went w.0 o (omega (arith, w.3, not_above w.0 o)), w.2)

-- both sides
ends : Proposal → List ℕ
ends p = p.low ∷ p.high ∷ []

in_ends : (K : List Proposal) (p : Proposal) (v : ℕ) → p ∈ K → has p v ≡ true → v ∈ flat_map ends K
unfolding ends
in_ends K p v m h =
    in_joined ends K p v m (elim (has_cases p v h) [ inl e ↦ inl (sym e) | inr e ↦ inr (inl (sym e)) ])

length_ends : (K : List Proposal) → length (flat_map ends K) ≡ 2 * length K
unfolding ends
length_ends [] = refl
length_ends (p ∷ K) = omega (arith, length_ends K)

-- a number above every meter of the two lists
top : List Proposal → List Proposal → ℕ
top A B = suc (sum_by (λ p. p.low + p.high) A + sum_by (λ p. p.low + p.high) B)

under_top : (K : List Proposal) (p : Proposal) (v : ℕ) → p ∈ K → has p v ≡ true → v ≤ sum_by (λ p. p.low + p.high) K
under_top K p v m h =
    let s = member_le (λ (p : Proposal). p.low + p.high) K p m in
    elim (has_cases p v h) [ inl e ↦ omega arith | inr e ↦ omega arith ]

-- the meters that are covered from level j on in exactly one of A and B
lones : ℕ → ℕ → List Proposal → List Proposal → List ℕ
lones r j A B = filter (lone r j A B) (below (top A B))

module _ (r j : ℕ) (A B : List Proposal) where
  lones_in : (v : ℕ) → v ∈ lones r j A B → lone r j A B v ≡ true
  unfolding lones
  lones_in v m = (kept_by_in (lone r j A B) (below (top A B)) v m).1

  in_lones : (v : ℕ) → lone r j A B v ≡ true → v ∈ lones r j A B
  unfolding lones top
  in_lones v h =
      in_kept_by (lone r j A B) (below (top A B)) v
      (in_below (top A B) v
      (elim (lone_cases r j A B v h) [
        | inl k ↦ let w = coverer r j A v k.0 in omega (arith, under_top A w.0 v w.1 w.2)
        | inr k ↦ let w = coverer r j B v k.0 in omega (arith, under_top B w.0 v w.1 w.2)
      ]))
      h

  lones_distinct : Pairwise (λ (v w : ℕ). v ≡ w → ⊥) (lones r j A B)
  unfolding lones
  lones_distinct = pairwise_kept_by (λ (v w : ℕ). v ≡ w → ⊥) (lone r j A B) (below (top A B)) (below_distinct (top A B))

-- the changed pairs of level j
changed_at : ℕ → ℕ → List Proposal → List Proposal → List Proposal
changed_at r j A B = filter (λ p. eqb (level r p) j) (changed A B)

changed_at_in : (r j : ℕ) (A B : List Proposal) (p : Proposal) → p ∈ changed_at r j A B → (p ∈ changed A B) × (level r p ≡ j)
unfolding changed_at
changed_at_in r j A B p m = let h = kept_by_in (λ p. eqb (level r p) j) (changed A B) p m in (h.0, eqb-true (level r p) j h.1)

in_changed_at : (r j : ℕ) (A B : List Proposal) (p : Proposal) → p ∈ changed A B → level r p ≡ j → p ∈ changed_at r j A B
unfolding changed_at
in_changed_at r j A B p m e = in_kept_by (λ p. eqb (level r p) j) (changed A B) p m (eq-eqb (level r p) j e)

module _ (r l : ℕ) (C C' A B : List Proposal) (alike : SameButAt r l C C') (ch' : Choice r C') (sa : Settled r C A) (sb : Settled r C' B) where
  back : SameButAt r l C' C
  back p ne = ((alike p ne).1, (alike p ne).0)

  -- at another level than l the changed pairs share no meter
  apart_at : (j : ℕ) → j < l → Pairwise (λ p q. shares p q ≡ false) (changed_at r j A B)
  unfolding changed_at
  apart_at j lt =
      let S = λ (p q : Proposal). level r p ≡ j → level r q ≡ j → shares p q ≡ false in
      let on : (K : List Proposal) → Pairing K → Pairwise S K = λ K h. pairwise_weaker (λ p q. shares p q ≡ false) S K (λ p q m n f _ _. f) h in
      pairwise_weaker S (λ p q. shares p q ≡ false) (changed_at r j A B)
      (λ p q m n f. f (changed_at_in r j A B p m).1 (changed_at_in r j A B q n).1)
      (pairwise_kept_by S (λ p. eqb (level r p) j) (changed A B)
      (pairwise_changed S A B (on A sa.pairing) (on B sb.pairing)
      (λ p q h k e f.
      elim (cases_Bool (shares p q)) [
        | inl s ↦
            let w = share_at p q s in
            let same-one = one_chosen r C' p q w.0 ch' ((alike p (omega arith)).0 (sa.chosen p h.0)) (sb.chosen q k.0) (e ∙ sym f) w.1 w.2 in
            absurd (k.1 (subst (λ (x : Proposal). x ∈ A) same-one h.0))
        | inr s ↦ s
      ])))

  distinct : Pairwise (λ p q. p ≡ q → ⊥) (changed A B)
  distinct =
      let on : (K : List Proposal) → Pairing K → Pairwise (λ p q. p ≡ q → ⊥) K =
      λ K h.
      pairwise_weaker (λ p q. shares p q ≡ false) (λ p q. p ≡ q → ⊥) K
      (λ p q m n f e. both_ways (shares p q) f (subst (λ (x : Proposal). shares p x ≡ true) e (shares_self p))) h in
      pairwise_changed (λ p q. p ≡ q → ⊥) A B (on A sa.pairing) (on B sb.pairing)
      (λ p q h k e. k.1 (subst (λ (x : Proposal). x ∈ A) e h.0))

  -- at most as many pairs change at level l as came or went
  at_l : length (changed_at r l A B) ≤ length (changed C C')
  unfolding changed_at
  at_l =
      pigeon same (changed_at r l A B) (changed C C')
      (λ p m.
      let h = changed_at_in r l A B p m in (
        p,
        elim (changed_cases A B p h.0) [
          | inl k ↦ changed_left C C' p (went r l C C' A B alike sa sb p k h.1)
          | inr k ↦ changed_right C C' p (went r l C' C B A back sb sa p k h.1)
        ],
        same_self p,
      ))
      (λ y.
      pairwise_weaker (λ p q. p ≡ q → ⊥) (λ p q. same p y ≡ true → same q y ≡ true → ⊥) (changed_at r l A B)
      (λ p q m n f a b. f (same_true p y a ∙ sym (same_true q y b)))
      (pairwise_kept_by (λ p q. p ≡ q → ⊥) (λ p. eqb (level r p) l) (changed A B) distinct))

  -- a changed pair of a lower level has a meter that was lone from the next level on, and is so no more
  caused : (p : Proposal) → p ∈ changed A B → level r p < l →
      (y : ℕ) × (has p y ≡ true) × (lone r (suc (level r p)) A B y ≡ true) × (lone r (level r p) A B y ≡ false)
  caused p m lt =
      elim (changed_cases A B p m) [
        | inl h ↦
            let c = cause r l C C' A B alike sa sb p h lt in
            let w = coverer r (suc (level r p)) B c.0 c.2.0 in (
              c.0,
              c.1,
              lone_right r (suc (level r p)) A B c.0 c.2,
              not_lone r (level r p) A B c.0
                  (covered_by r (level r p) A c.0 p h.0 c.1 (omega arith))
                  (covered_by r (level r p) B c.0 w.0 w.1 w.2 (omega (arith, w.3))),
            )
        | inr h ↦
            let c = cause r l C' C B A back sb sa p h lt in
            let w = coverer r (suc (level r p)) A c.0 c.2.0 in (
              c.0,
              c.1,
              lone_left r (suc (level r p)) A B c.0 c.2,
              not_lone r (level r p) A B c.0
                  (covered_by r (level r p) A c.0 w.0 w.1 w.2 (omega (arith, w.3)))
                  (covered_by r (level r p) B c.0 p h.0 c.1 (omega arith)),
            )
      ]

  cause_at : (j : ℕ) → j < l → (p : Proposal) → p ∈ changed_at r j A B →
      (y : ℕ) × (has p y ≡ true) × (lone r (suc j) A B y ≡ true) × (lone r j A B y ≡ false)
  cause_at j lt p m =
      let h = changed_at_in r j A B p m in
      let c = caused p h.0 (omega arith) in (
        c.0,
        c.1,
        subst (λ (i : ℕ). lone r (suc i) A B c.0 ≡ true) h.1 c.2,
        subst (λ (i : ℕ). lone r i A B c.0 ≡ false) h.1 c.3,
      )

  -- at most as many pairs change at a lower level as there are lone meters from the next one on
  at_lower : (j : ℕ) → j < l → length (changed_at r j A B) ≤ length (lones r (suc j) A B)
  at_lower j lt =
      pigeon has (changed_at r j A B) (lones r (suc j) A B)
      (λ p m. let c = cause_at j lt p m in (c.0, in_lones r (suc j) A B c.0 c.2, c.1))
      (λ y.
      pairwise_weaker (λ p q. shares p q ≡ false) (λ p q. has p y ≡ true → has q y ≡ true → ⊥) (changed_at r j A B)
      (λ p q m n f a b. never_both p q y f a b) (apart_at j lt))

  lones_at_l : length (lones r l A B) ≤ 2 * length (changed C C')
  lones_at_l =
      let e = length_ends (changed C C') in
      let h = pigeon eqb (lones r l A B) (flat_map ends (changed C C'))
      (λ v m. (
        v,
        elim (lone_cases r l A B v (lones_in r l A B v m)) [
          | inl k ↦ let w = lone_went r l C C' A B alike sa sb v k in in_ends (changed C C') w.0 v (changed_left C C' w.0 w.1) w.2
          | inr k ↦ let w = lone_went r l C' C B A back sb sa v k in in_ends (changed C C') w.0 v (changed_right C C' w.0 w.1) w.2
        ],
        eq-eqb v v refl,
      ))
      (λ y.
      pairwise_weaker (λ (v w : ℕ). v ≡ w → ⊥) (λ v w. eqb v y ≡ true → eqb w y ≡ true → ⊥) (lones r l A B)
      (λ v w m n f a b. f (eqb-true v y a ∙ sym (eqb-true w y b))) (lones_distinct r l A B)) in
      omega arith

  -- the lone meters do not become more: one that is new from level j on stands for one that is lone no more
  stands : ℕ → ℕ → ℕ → Bool
  stands j v y = eqb v y || (not (lone r j A B y) && any (λ p. has p v && has p y) (changed_at r j A B))

  stands_cases : (j v y : ℕ) → stands j v y ≡ true →
      (v ≡ y) ⊎ ((lone r j A B y ≡ false) × (p : Proposal) × (p ∈ changed_at r j A B) × (has p v ≡ true) × (has p y ≡ true))
  unfolding stands
  stands_cases j v y h =
      elim (or_cases (eqb v y) (not (lone r j A B y) && any (λ p. has p v && has p y) (changed_at r j A B)) h) [
        | inl e ↦ inl (eqb-true v y e)
        | inr e ↦
            let a = and_parts (not (lone r j A B y)) (any (λ p. has p v && has p y) (changed_at r j A B)) e in
            let w = any_member (λ p. has p v && has p y) (changed_at r j A B) a.1 in
            let b = and_parts (has w.0 v) (has w.0 y) w.2 in
            inr (not-true (lone r j A B y) a.0, w.0, w.1, b.0, b.1)
      ]

  stands_once : (j : ℕ) → j < l → (v w y : ℕ) → v ∈ lones r j A B → w ∈ lones r j A B → (v ≡ w → ⊥) → stands j v y ≡ true → stands j w y ≡ true → ⊥
  stands_once j lt v w y m n ne a b =
      let lv = lones_in r j A B v m in
      let lw = lones_in r j A B w n in
      let clash : (u : ℕ) → lone r j A B u ≡ true → lone r j A B y ≡ false → u ≡ y → ⊥ =
      λ u t f e. both_ways (lone r j A B y) f (ap (lone r j A B) (sym e) ∙ t) in
      elim (stands_cases j v y a) [
        | inl e ↦
            elim (stands_cases j w y b) [
              | inl f ↦ ne (e ∙ sym f)
              | inr k ↦ clash v lv k.0 e
            ]
        | inr h ↦
            elim (stands_cases j w y b) [
              | inl f ↦ clash w lw h.0 f
              | inr k ↦
                  let e = one_pair (changed_at r j A B) k.1 h.1 y (apart_at j lt) k.2 h.2 k.4 h.4 in
                  let hw : has h.1 w ≡ true = subst (λ (p : Proposal). has p w ≡ true) e k.3 in
                  elim (two_only h.1 v w y h.3 hw h.4 ne) [
                    | inl q ↦ clash v lv h.0 (sym q)
                    | inr q ↦ clash w lw h.0 (sym q)
                  ]
            ]
      ]

  stands_for : (j : ℕ) → j < l → (v : ℕ) → v ∈ lones r j A B → (y : ℕ) × (y ∈ lones r (suc j) A B) × (stands j v y ≡ true)
  unfolding stands
  stands_for j lt v m =
      let by : (p : Proposal) → p ∈ changed_at r j A B → has p v ≡ true → (y : ℕ) × (y ∈ lones r (suc j) A B) × (stands j v y ≡ true) =
      λ p i h.
      let c = cause_at j lt p i in (
        c.0,
        in_lones r (suc j) A B c.0 c.2,
        or_right (eqb v c.0) (not (lone r j A B c.0) && any (λ p. has p v && has p c.0) (changed_at r j A B))
            (and_from (not (lone r j A B c.0)) (any (λ p. has p v && has p c.0) (changed_at r j A B)) (not_from_false (lone r j A B c.0) c.3)
            (any_true (λ p. has p v && has p c.0) (changed_at r j A B) p i (and_from (has p v) (has p c.0) h c.1))),
      ) in
      elim (cases_Bool (lone r (suc j) A B v)) [
        | inl e ↦ (
          v,
          in_lones r (suc j) A B v e,
          or_left (eqb v v) (not (lone r j A B v) && any (λ p. has p v && has p v) (changed_at r j A B)) (eq-eqb v v refl),
        )
        | inr e ↦
            elim (lone_cases r j A B v (lones_in r j A B v m)) [
              | inl k ↦
                  let w = newly r l C C' A B alike sa sb j v k e in
                  by w.0 (in_changed_at r j A B w.0 (changed_left A B w.0 w.1) w.3) w.2
              | inr k ↦
                  let w = newly r l C' C B A back sb sa j v k (lone_sym r (suc j) A B v e) in
                  by w.0 (in_changed_at r j A B w.0 (changed_right A B w.0 w.1) w.3) w.2
            ]
      ]

  no_more : (j : ℕ) → j < l → length (lones r j A B) ≤ length (lones r (suc j) A B)
  no_more j lt =
      pigeon (stands j) (lones r j A B) (lones r (suc j) A B) (stands_for j lt)
      (λ y.
      pairwise_weaker (λ (v w : ℕ). v ≡ w → ⊥) (λ v w. stands j v y ≡ true → stands j w y ≡ true → ⊥) (lones r j A B)
      (λ v w m n f. stands_once j lt v w y m n f) (lones_distinct r j A B))

  few_lones : (d j : ℕ) → j + d ≡ l → length (lones r j A B) ≤ 2 * length (changed C C')
  few_lones zero j e =
      let f : l ≡ j = omega arith in
      subst (λ (i : ℕ). length (lones r i A B) ≤ 2 * length (changed C C')) f lones_at_l
  few_lones (suc d) j e = omega (arith, no_more j (omega arith), few_lones d (suc j) (omega arith))

  -- the changed pairs level by level: none above l, at most k at l, and at most 2 k at each lower level
  limit : altered A B ≤ altered C C' * (2 * l + 1)
  unfolding changed_at
  limit =
      let X = changed A B in
      let all : filter (λ p. ltb (level r p) (suc l)) X ≡ X =
      kept_by_all (λ (p : Proposal). ltb (level r p) (suc l)) X
      (λ p m.
      lt-ltb (level r p) (suc l)
      (elim (changed_cases A B p m) [
        | inl h ↦ omega (arith, not_above r l C C' A B alike sa sb p h)
        | inr h ↦ omega (arith, not_above r l C' C B A back sb sa p h)
      ])) in
      let lower = by_levels (level r) X (2 * length (changed C C')) l
      (λ j lt. let d : (d : ℕ) × (suc j + d ≡ l) = (l - suc j, omega arith) in omega (arith, at_lower j lt, few_lones d.0 (suc j) d.1)) in
      omega (arith, ap length all, length_below (level r) l X, lower, at_l)

pub alteration : Alteration
alteration r l C C' ch ch' alike = limit r l C C' (kept r C) (kept r C') alike ch' (combining r C ch) (combining r C' ch')
