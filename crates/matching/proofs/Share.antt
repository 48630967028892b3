-- The share. Each pair of a rival pairing is charged to a meter of a kept pair: at once, where that meter is one of its own,
-- or by way of a chosen pair of its own level that has the meter.
use Rattle.std.proofs.Common.{◌≡◌, ℕ, zero, suc, ◌+◌, ◌-◌, ◌*◌, ◌^◌, ◌<◌, ◌≤◌, Bool, true, false, not, ◌&&◌, eqb, List, [], ◌∷◌, ◌++◌, sum_by, sym, refl, ap, ◌∙◌, subst, inl, inr, mul-le-mul_left, arith}
use native.Mathlib.Nat.{pow-succ', pow-zero, pow-le-pow_right}
use Rattle.std.proofs.lemmas.Bool.{both_ways, cases_Bool, cases_eq, and_parts, and_from, not-true, not_from_false, eqb-true, eq-eqb}
use Rattle.std.proofs.lemmas.List.Sums.{sum_by-cons, sum_by-append}
use Rattle.std.specs.List.{flat_map}
use Rattle.proposals.specs.declared.proposals.Proposal.{Proposal}
use Rattle.proposals.proofs.Ladder.{level_stands}
use Rattle.matching.specs.Lists.{◌∈◌, any}
use Rattle.matching.specs.Matching.{has, shares, level, Choice, Pairing, Maximal, Settled, kept, total}
use Rattle.matching.specs.Theorems.{Share, ShareOfTwo}
use Rattle.matching.proofs.Lists.{any_member, any_true, pairwise_weaker, charge, in_joined, sum_joined, sum_mono, sum_times, append_left, append_right}
use Rattle.matching.proofs.Pairs.{has_cases, has_low, share_at, never_both, one_chosen, shares_by, two_only}
use Rattle.matching.proofs.Kept.{combining}

-- room for a charge at a meter: for one rival pair that has the meter, of level l at most,
-- or for one rival pair of level l by way of a chosen pair that has the meter
data Slot : Type 0 where
  direct : (meter l : ℕ) → Slot
  indirect : (meter l : ℕ) → Slot

abbrev bears : ℕ → Slot → ℕ
bears r (direct m l) = r ^ suc l
bears r (indirect m l) = r ^ suc l

abbrev indirects : ℕ → ℕ → List Slot
indirects m zero = []
indirects m (suc l) = indirect m l ∷ indirects m l

-- the slots at a meter of a kept pair of level l
abbrev slots_at : ℕ → ℕ → List Slot
slots_at l m = direct m l ∷ indirects m l

abbrev slots : ℕ → Proposal → List Slot
slots r k = slots_at (level r k) k.low ++ slots_at (level r k) k.high

-- the chosen pair q, of level l, has the meter m and shares another one with p
abbrev leads : ℕ → Proposal → ℕ → ℕ → Proposal → Bool
leads r p m l q = eqb (level r q) l && (has q m && shares p q)

abbrev charges : ℕ → List Proposal → Proposal → Slot → Bool
charges r C p (direct m l) = has p m
charges r C p (indirect m l) = not (has p m) && any (leads r p m l) C

in_indirects : (m i l : ℕ) → i < l → indirect m i ∈ indirects m l
in_indirects m i zero h = absurd (omega arith)
in_indirects m i (suc l) h = elim (cases_eq i l) [ inl e ↦ inl (ap (indirect m) e) | inr e ↦ inr (in_indirects m i l (omega arith)) ]

in_slots : (r : ℕ) (k : Proposal) (m : ℕ) (y : Slot) → has k m ≡ true → y ∈ slots_at (level r k) m → y ∈ slots r k
in_slots r k m y h i =
    elim (has_cases k m h) [
      | inl e ↦
          append_left (slots_at (level r k) k.low) (slots_at (level r k) k.high) y
          (subst (λ (v : ℕ). y ∈ slots_at (level r k) v) (sym e) i)
      | inr e ↦
          append_right (slots_at (level r k) k.low) (slots_at (level r k) k.high) y
          (subst (λ (v : ℕ). y ∈ slots_at (level r k) v) (sym e) i)
    ]

-- no slot is charged twice
module _ (r : ℕ) (C : List Proposal) (ch : Choice r C) where
  by_way : (p : Proposal) (m l : ℕ) → charges r C p (indirect m l) ≡ true →
      (q : Proposal) × (q ∈ C) × (level r q ≡ l) × (has q m ≡ true) × (x : ℕ) × (has p x ≡ true) × (has q x ≡ true) × (m ≡ x → ⊥)
  by_way p m l h =
      let a = and_parts (not (has p m)) (any (leads r p m l) C) h in
      let w = any_member (leads r p m l) C a.1 in
      let b = and_parts (eqb (level r w.0) l) (has w.0 m && shares p w.0) w.2 in
      let c = and_parts (has w.0 m) (shares p w.0) b.1 in
      let s = share_at p w.0 c.1 in (
        w.0,
        w.1,
        eqb-true (level r w.0) l b.0,
        c.0,
        s.0,
        s.1,
        s.2,
        λ e. both_ways (has p m) (not-true (has p m) a.0) (ap (has p) e ∙ s.1),
      )

  once : (y : Slot) (p z : Proposal) → shares p z ≡ false → charges r C p y ≡ true → charges r C z y ≡ true → ⊥
  once (direct m l) p z a h k = never_both p z m a h k
  once (indirect m l) p z a h k =
      let u = by_way p m l h in
      let v = by_way z m l k in
      let e = one_chosen r C v.0 u.0 m ch v.1 u.1 (v.2 ∙ sym u.2) v.3 u.3 in
      let hx : has u.0 v.4 ≡ true = subst (λ (q : Proposal). has q v.4 ≡ true) e v.6 in
      elim (two_only u.0 m u.4 v.4 u.3 u.6 hx u.7) [
        | inl q ↦ v.7 (sym q)
        | inr q ↦ never_both p z u.4 a u.5 (ap (has z) (sym q) ∙ v.5)
      ]

-- each rival pair has a slot that bears it
module _ (r : ℕ) (opened C K : List Proposal) (two : 2 ≤ r) (law : Maximal r opened C) (st : Settled r C K) (p : Proposal) (isOpened : p ∈ opened) where
  Charged : Type 0
  Charged = (y : Slot) × (y ∈ flat_map (slots r) K) × (charges r C p y ≡ true) × (p.saving ≤ bears r y)

  bearable : (l : ℕ) → level r p ≤ l → p.saving ≤ r ^ suc l
  bearable l h =
      let up : level r p + 1 ≤ suc l = omega arith in
      let pos : 0 < r = omega arith in
      omega (arith, level_stands r p.saving two p.some p.limited, pow-le-pow_right pos up)

  at_once : (k : Proposal) (m : ℕ) → k ∈ K → has k m ≡ true → has p m ≡ true → level r p ≤ level r k → Charged
  unfolding Charged
  at_once k m i hk hp le = (
    direct m (level r k),
    in_joined (slots r) K k (direct m (level r k)) i (in_slots r k m (direct m (level r k)) hk (inl refl)),
    hp,
    bearable (level r k) le,
  )

  by_chosen : (k q : Proposal) (m : ℕ) → k ∈ K → q ∈ C → level r q ≡ level r p → has k m ≡ true → has q m ≡ true →
      has p m ≡ false → shares p q ≡ true → level r p < level r k → Charged
  unfolding Charged
  by_chosen k q m i j e hk hq hp s lt = (
    indirect m (level r p),
    in_joined (slots r) K k (indirect m (level r p)) i
        (in_slots r k m (indirect m (level r p)) hk (inr (in_indirects m (level r p) (level r k) lt))),
    and_from (not (has p m)) (any (leads r p m (level r p)) C) (not_from_false (has p m) hp)
        (any_true (leads r p m (level r p)) C q j
        (and_from (eqb (level r q) (level r p)) (has q m && shares p q) (eq-eqb (level r q) (level r p) e) (and_from (has q m) (shares p q) hq s))),
    bearable (level r p) (omega arith),
  )

  by_way_of : (q : Proposal) → q ∈ C → level r q ≡ level r p → shares p q ≡ true → Charged
  by_way_of q j e s =
      let x = share_at p q s in
      elim (st.every q j) [
        | inl k ↦ at_once q x.0 k x.2 x.1 (omega arith)
        | inr w ↦
            let u = share_at q w.0 w.3 in
            let above : level r p < level r w.0 = omega (arith, w.2) in
            elim (cases_Bool (has p u.0)) [
              | inl h ↦ at_once w.0 u.0 w.1 u.2 h (omega arith)
              | inr h ↦ by_chosen w.0 q u.0 w.1 j e u.2 u.1 h s above
            ]
      ]

  charged : Charged
  charged =
      elim (law.none_left p isOpened) [
        | inl c ↦ by_way_of p c refl (shares_by p p p.low (has_low p) (has_low p))
        | inr q ↦ by_way_of q.0 q.1 q.2 q.3
      ]

-- what the slots of a kept pair bear together
geometric : (n m l : ℕ) → n * sum_by (bears (suc n)) (indirects m l) + suc n ≡ suc n ^ suc l
geometric n m zero = omega (arith, pow-succ' (suc n) 0, ap (λ (x : ℕ). suc n * x) (pow-zero (suc n)))
geometric n m (suc l) =
    rw (sum_by-cons (bears (suc n)) (indirect m l) (indirects m l)) (omega (arith, pow-succ' (suc n) (suc l), geometric n m l))

two_sums : (n P S : ℕ) → n * S + suc n ≡ P → n * (P + S) ≤ suc n * P
two_sums n P S h = omega arith

at_bears : (n m l : ℕ) → n * sum_by (bears (suc n)) (slots_at l m) ≤ suc n * (suc n * suc n ^ l)
at_bears n m l =
    rw (sum_by-cons (bears (suc n)) (direct m l) (indirects m l), ← pow-succ' (suc n) l)
    (two_sums n (suc n ^ suc l) (sum_by (bears (suc n)) (indirects m l)) (geometric n m l))

two_ends : (n x y Q s : ℕ) → n * x ≤ suc n * (suc n * Q) → n * y ≤ suc n * (suc n * Q) → Q ≤ s → n * (x + y) ≤ 2 * suc n * suc n * s
two_ends n x y Q s a b h = omega (arith, mul-le-mul_left (suc n) (mul-le-mul_left (suc n) h))

slots_bear : (n : ℕ) (k : Proposal) → suc n ^ level (suc n) k ≤ k.saving →
    n * sum_by (bears (suc n)) (slots (suc n) k) ≤ 2 * suc n * suc n * k.saving
slots_bear n k h =
    let l = level (suc n) k in
    subst (λ (x : ℕ). n * x ≤ 2 * suc n * suc n * k.saving) (sym (sum_by-append (bears (suc n)) (slots_at l k.low) (slots_at l k.high)))
    (two_ends n (sum_by (bears (suc n)) (slots_at l k.low)) (sum_by (bears (suc n)) (slots_at l k.high)) (suc n ^ l) k.saving
    (at_bears n k.low l) (at_bears n k.high l) h)

sum_bears : (n : ℕ) (K : List Proposal) → ((k : Proposal) → k ∈ K → suc n ^ level (suc n) k ≤ k.saving) →
    n * sum_by (bears (suc n)) (flat_map (slots (suc n)) K) ≤ 2 * suc n * suc n * total K
sum_bears n K h =
    let b = bears (suc n) in
    let c = 2 * suc n * suc n in
    let e = sum_times n (λ (k : Proposal). sum_by b (slots (suc n) k)) K in
    let f = sum_times c (λ (k : Proposal). k.saving) K in
    let g = sum_mono (λ (k : Proposal). n * sum_by b (slots (suc n) k)) (λ (k : Proposal). c * k.saving) K (λ k i. slots_bear n k (h k i)) in
    rw (sum_joined b (slots (suc n)) K, e, f) g

share_suc : (n : ℕ) (opened C K R : List Proposal) → 2 ≤ suc n → Maximal (suc n) opened C → Settled (suc n) C K →
    ((p : Proposal) → p ∈ R → p ∈ opened) → Pairing R → n * total R ≤ 2 * suc n * suc n * total K
unfolding Charged
share_suc n opened C K R two law st rivals pr =
    let r = suc n in
    let low : (k : Proposal) → k ∈ K → r ^ level r k ≤ k.saving = λ k i. (level_stands r k.saving two k.some k.limited).reached in
    let c = charge (charges r C) (λ (p : Proposal). p.saving) (bears r) (flat_map (slots r) K) R
    (λ p i. charged r opened C K two law st p (rivals p i))
    (λ y. pairwise_weaker (λ p q. shares p q ≡ false) (λ p q. charges r C p y ≡ true → charges r C q y ≡ true → ⊥) R
    (λ p q i j a. once r C law.choice y p q a) pr) in
    omega (arith, mul-le-mul_left n c, sum_bears n K low)

pub share : Share
share zero opened C R two law rivals pr = absurd (omega arith)
share (suc n) opened C R two law rivals pr =
    let e : suc n - 1 ≡ n = omega arith in
    rw e (share_suc n opened C (kept (suc n) C) R two law (combining (suc n) C law.choice) rivals pr)

pub share_of_two : ShareOfTwo
share_of_two opened C R law rivals pr = omega (arith, share 2 opened C R (omega arith) law rivals pr)
