-- The pairs that two pairings differ by, counted meter by meter.
use Rattle.std.proofs.Common.{◌≡◌, ℕ, zero, suc, ◌+◌, ◌*◌, ◌<◌, ◌≤◌, Bool, true, false, cond, not, ◌&&◌, eqb, ltb, List, [], ◌∷◌, ◌++◌, length, filter, sym, refl, ap, ◌∙◌, inl, inr, ⊎_elim, add-one, arith, length-append}
use mir.Val.{bool_byte}
use Rattle.std.proofs.lemmas.Bool.{cases_Bool, cases_eq, both_ways, eq-eqb, ne_eqb, eqb-false, and_parts, and_from, not-true, ltb-true, lt-ltb}
use Rattle.std.proofs.lemmas.Bool.Decides.{nat_tests}
use Rattle.std.specs.List.{range_with_len, sum_by}
use Rattle.std.proofs.lemmas.List.{map-id}
use Rattle.std.proofs.lemmas.List.Sums.{sum_by-append}
use Rattle.std.proofs.lemmas.List.FromFn.{map-range_with_len_more}
use Rattle.proposals.specs.declared.proposals.Proposal.{Proposal}
use Rattle.matching.specs.Lists.{◌∈◌, Pairwise}
use Rattle.matching.specs.Matching.{is_in, altered}
use Rattle.matching.proofs.Pairs.{is_in_lem, not_in}
use Rattle.settling.specs.Counts.{one, tally, lost, differing}

-- the test but for one number
abbrev but : ℕ → (ℕ → Bool) → ℕ → Bool
but a t v = t v && not (eqb v a)

one_false : (b : Bool) → b ≡ false → one b ≡ 0
one_false b e = ap one e

tally_none : (t : ℕ → Bool) (n : ℕ) → ((v : ℕ) → v < n → t v ≡ false) → tally t n ≡ 0
tally_none t zero h = refl
tally_none t (suc n) h = omega (arith, tally_none t n (λ v lt. h v (omega arith)), one_false (t n) (h n (omega arith)))

-- at that number the test fails, and at any other it is the same
but_here : (t : ℕ → Bool) (a v : ℕ) → v ≡ a → but a t v ≡ false
but_here t a v e = grind (arith, nat_tests)

but_there : (t : ℕ → Bool) (a v : ℕ) → (v ≡ a → ⊥) → but a t v ≡ t v
but_there t a v ne = grind (arith, nat_tests)

tally_past : (t : ℕ → Bool) (a n : ℕ) → n ≤ a → tally (but a t) n ≡ tally t n
tally_past t a zero h = refl
tally_past t a (suc n) h = omega (arith, tally_past t a n (omega arith), ap one (but_there t a n (λ e. omega arith)))

-- one number more that passes
tally_point : (t : ℕ → Bool) (a n : ℕ) → a < n → tally t n ≡ tally (but a t) n + one (t a)
tally_point t a zero lt = absurd (omega arith)
tally_point t a (suc n) lt =
    ⊎_elim
    (λ e. omega (arith, tally_past t a n (omega arith), one_false (but a t n) (but_here t a n (sym e)), ap (λ v. one (t v)) e))
    (λ ne. omega (arith, tally_point t a n (omega arith), ap one (but_there t a n (λ e. ne (sym e)))))
    (cases_eq a n)

-- the lower meters that pass are those of the pairs that pass
pub tally_is : (A : List Proposal) (u : Proposal → Bool) (t : ℕ → Bool) (n : ℕ) → Pairwise (λ p q. p.low < q.low) A → ((p : Proposal) → p ∈ A → p.low < n) →
    ((p : Proposal) → p ∈ A → t p.low ≡ u p) → ((v : ℕ) → v < n → t v ≡ true → (p : Proposal) × (p ∈ A) × (p.low ≡ v)) → tally t n ≡ length (filter u A)
tally_is [] u t n up low is only = tally_none t n (λ v lt. elim (cases_Bool (t v)) [ inl h ↦ absurd (only v lt h).1 | inr h ↦ h ])
tally_is (p ∷ ps) u t n up low is only =
    omega (
      arith,
      tally_point t p.low n (low p (inl refl)),
      tally_is ps u (but p.low t) n up.1 (λ q m. low q (inr m)) rest others,
      count (t p.low) (u p) (is p (inl refl)),
    )
  where
    rest : (q : Proposal) → q ∈ ps → but p.low t q.low ≡ u q
    rest q m = but_there t p.low q.low (λ e. omega (arith, up.0 q m)) ∙ is q (inr m)

    others : (v : ℕ) → v < n → but p.low t v ≡ true → (q : Proposal) × (q ∈ ps) × (q.low ≡ v)
    others v lt h =
        let a = and_parts (t v) (not (eqb v p.low)) h in
        let ne = eqb-false v p.low (not-true (eqb v p.low) a.1) in
        let w = only v lt a.0 in
        (w.0, elim w.1 [ inl e ↦ absurd (ne (sym w.2 ∙ ap (λ q. q.low) e)) | inr k ↦ k ], w.2)

    count : (a b : Bool) → a ≡ b → one a + length (filter u ps) ≡ length (cond b (p ∷ filter u ps) (filter u ps))
    count true true e = omega arith
    count false false e = omega arith
    count true false e = absurd (both_ways false refl (sym e))
    count false true e = absurd (both_ways false refl e)

-- P is the row of partners of the pairing A of the meters below n: a meter without a partner has its own number
pub record RowOf (n : ℕ) (A : List Proposal) (P : ℕ → ℕ) : Type 0 where
  pub pair : (p : Proposal) → p ∈ A → P p.low ≡ p.high
  pub only : (v : ℕ) → v < n → v < P v → (p : Proposal) × (p ∈ A) × (p.low ≡ v)

-- a pair of A is lost where it is not in B
lost_is : (n : ℕ) (A B : List Proposal) (P Q : ℕ → ℕ) (p : Proposal) → RowOf n A P → RowOf n B Q → (Q p.low ≡ p.high → p ∈ B) → p ∈ A → lost P Q p.low ≡ not (is_in B p)
lost_is n A B P Q p a b joint m =
    elim (cases_Bool (is_in B p)) [
      | inl h ↦
          let q : Q p.low ≡ p.high = b.pair p (is_in_lem B p h) in
          let e : eqb (P p.low) (Q p.low) ≡ true = eq-eqb (P p.low) (Q p.low) (a.pair p m ∙ sym q) in
          kept_both (ltb p.low (P p.low)) (eqb (P p.low) (Q p.low)) e ∙ ap not (sym h)
      | inr h ↦
          let e : eqb (P p.low) (Q p.low) ≡ false = ne_eqb (P p.low) (Q p.low) (λ x. not_in B p h (joint (sym x ∙ a.pair p m))) in
          let lt : ltb p.low (P p.low) ≡ true = lt-ltb p.low (P p.low) (omega (arith, a.pair p m, p.apart)) in
          and_from (ltb p.low (P p.low)) (not (eqb (P p.low) (Q p.low))) lt (ap not e) ∙ ap not (sym h)
    ]
  where
    kept_both : (x y : Bool) → y ≡ true → (x && not y) ≡ false
    kept_both true true e = refl
    kept_both false true e = refl
    kept_both true false e = absurd (both_ways false refl e)
    kept_both false false e = refl

-- the pairs in exactly one of two pairings, counted by their rows of partners
pub altered_is : (A B : List Proposal) (P Q : ℕ → ℕ) (n : ℕ) → RowOf n A P → RowOf n B Q →
    Pairwise (λ p q. p.low < q.low) A → Pairwise (λ p q. p.low < q.low) B →
    ((p : Proposal) → p ∈ A → p.low < n) → ((p : Proposal) → p ∈ B → p.low < n) →
    ((p : Proposal) → p ∈ A → Q p.low ≡ p.high → p ∈ B) → ((p : Proposal) → p ∈ B → P p.low ≡ p.high → p ∈ A) →
    differing P Q n ≡ altered A B
altered_is A B P Q n a b upA upB lowA lowB in_b in_a =
    omega (
      arith,
      length-append (filter (λ p. not (is_in B p)) A) (filter (λ p. not (is_in A p)) B),
      tally_is A (λ p. not (is_in B p)) (lost P Q) n upA lowA (λ p m. lost_is n A B P Q p a b (in_b p m) m) (λ v lt h. a.only v lt (ltb-true v (P v) (and_parts (ltb v (P v)) (not (eqb (P v) (Q v))) h).0)),
      tally_is B (λ p. not (is_in A p)) (lost Q P) n upB lowB (λ p m. lost_is n B A Q P p b a (in_a p m) m) (λ v lt h. b.only v lt (ltb-true v (Q v) (and_parts (ltb v (Q v)) (not (eqb (Q v) (P v))) h).0)),
    )

-- a test as a number
pub byte_is : (b : Bool) → bool_byte b ≡ one b
byte_is true = refl
byte_is false = refl

pub one_le : (b : Bool) → one b ≤ 1
one_le true = omega arith
one_le false = omega arith

-- only the meters below n matter
tally_same : (t u : ℕ → Bool) (n : ℕ) → ((v : ℕ) → v < n → t v ≡ u v) → tally t n ≡ tally u n
tally_same t u zero h = refl
tally_same t u (suc n) h = omega (arith, tally_same t u n (λ v lt. h v (omega arith)), ap one (h n (omega arith)))

pub differing_same : (P R Q : ℕ → ℕ) (n : ℕ) → ((v : ℕ) → v < n → P v ≡ R v) → differing P Q n ≡ differing R Q n
differing_same P R Q n h =
    omega (
      arith,
      tally_same (lost P Q) (lost R Q) n (λ v lt. ap (λ w. ltb v w && not (eqb w (Q v))) (h v lt)),
      tally_same (lost Q P) (lost Q R) n (λ v lt. ap (λ w. ltb v (Q v) && not (eqb (Q v) w)) (h v lt)),
    )

range_more : (n : ℕ) → range_with_len 0 (n + 1) ≡ range_with_len 0 n ++ n ∷ []
range_more n = sym (map-id _) ∙ map-range_with_len_more (λ x. x) 0 n n (omega arith) ∙ ap (λ l. l ++ n ∷ []) (map-id _)

-- the pairs of one meter more
pub differing_more : (P Q : ℕ → ℕ) (n : ℕ) → differing P Q (n + 1) ≡ differing P Q n + (one (lost P Q n) + one (lost Q P n))
differing_more P Q n = ap (differing P Q) (add-one n) ∙ omega arith

-- what a meter adds to the count
abbrev pub differing_at : (ℕ → ℕ) → (ℕ → ℕ) → ℕ → ℕ
differing_at P Q v = one (lost P Q v) + one (lost Q P v)

-- the count as a chain of iterators sums it up
pub differing_sum : (P Q : ℕ → ℕ) (n : ℕ) → sum_by (differing_at P Q) (range_with_len 0 n) ≡ differing P Q n
differing_sum P Q zero = refl
differing_sum P Q (suc n) =
    ap (λ k. sum_by (differing_at P Q) (range_with_len 0 k)) (sym (add-one n)) ∙ ap (sum_by (differing_at P Q)) (range_more n) ∙
    omega (arith, sum_by-append (differing_at P Q) (range_with_len 0 n) (n ∷ []), differing_sum P Q n)

tally_le : (t : ℕ → Bool) (n : ℕ) → tally t n ≤ n
tally_le t zero = omega arith
tally_le t (suc n) = omega (arith, tally_le t n, one_le (t n))

pub differing_fits : (P Q : ℕ → ℕ) (n top : ℕ) → 2 * n < top → sum_by (differing_at P Q) (range_with_len 0 n) < top
differing_fits P Q n top lt = omega (arith, differing_sum P Q n, tally_le (lost P Q) n, tally_le (lost Q P) n)
