-- Lemmas on lists: members, filters, what holds pairwise, and sums that are charged to other sums.
use Rattle.std.proofs.Common.{◌≡◌, ℕ, zero, suc, ◌+◌, ◌*◌, ◌<◌, ◌≤◌, Bool, true, false, cond, eqb, ltb, ◌⊎◌, List, [], ◌∷◌, ◌++◌, length, Some, None, sum_by, filter, Option, sym, refl, ap, ◌∙◌, subst, inl, inr, zero-le, arith}
use Rattle.std.proofs.lemmas.Bool.{both_ways, cases_Bool, or_cases, or_left, or_right}
use Rattle.std.proofs.lemmas.Bool.Decides.{nat_tests}
use Rattle.std.proofs.lemmas.List.Sums.{sum_by-cons, sum_by-append, length-filter, count_by-le-length}
use Rattle.std.specs.List.{flat_map}
use Rattle.matching.specs.Lists.{◌∈◌, Pairwise, any, first_of}

pub none_some : {X : Type 0} {o : Option X} {x : X} → o ≡ None → o ≡ Some x → ⊥
none_some h k = let z : ◌≡◌ {A = ℕ} 0 1 = cc in omega arith

-- members and `any`
pub any_member : {X : Type 0} (t : X → Bool) (xs : List X) → any t xs ≡ true → (x : X) × (x ∈ xs) × (t x ≡ true)
any_member t [] e = absurd (both_ways false refl e)
any_member t (x ∷ xs) e =
    elim (or_cases (t x) (any t xs) e) [
      | inl h ↦ (x, inl refl, h)
      | inr k ↦ let r = any_member t xs k in (r.0, inr r.1, r.2)
    ]

pub any_true : {X : Type 0} (t : X → Bool) (xs : List X) (x : X) → x ∈ xs → t x ≡ true → any t xs ≡ true
any_true t [] x m h = absurd m
any_true t (y ∷ ys) x (inl e) h = or_left (t y) (any t ys) (ap t (sym e) ∙ h)
any_true t (y ∷ ys) x (inr m) h = or_right (t y) (any t ys) (any_true t ys x m h)

pub any_false : {X : Type 0} (t : X → Bool) (xs : List X) (x : X) → any t xs ≡ false → x ∈ xs → t x ≡ false
any_false t xs x e m =
    elim (cases_Bool (t x)) [ inl h ↦ absurd (both_ways (any t xs) e (any_true t xs x m h)) | inr h ↦ h ]

-- members of a filter
pub kept_by_in : {X : Type 0} (t : X → Bool) (xs : List X) (x : X) → x ∈ filter t xs → (x ∈ xs) × (t x ≡ true)
kept_by_in t [] x m = absurd m
kept_by_in {X} t (y ∷ ys) x m = go (t y) refl m (kept_by_in t ys x)
  where
    go : (b : Bool) → t y ≡ b → x ∈ cond b (y ∷ filter t ys) (filter t ys) → (x ∈ filter t ys → (x ∈ ys) × (t x ≡ true)) → (x ∈ (y ∷ ys)) × (t x ≡ true)
    go true h (inl e) ih = (inl e, ap t e ∙ h)
    go true h (inr m) ih = (inr (ih m).0, (ih m).1)
    go false h m ih = (inr (ih m).0, (ih m).1)

pub in_kept_by : {X : Type 0} (t : X → Bool) (xs : List X) (x : X) → x ∈ xs → t x ≡ true → x ∈ filter t xs
in_kept_by t [] x m h = m
in_kept_by {X} t (y ∷ ys) x m h = go (t y) refl m (λ k. in_kept_by t ys x k h)
  where
    go : (b : Bool) → t y ≡ b → x ∈ (y ∷ ys) → (x ∈ ys → x ∈ filter t ys) → x ∈ cond b (y ∷ filter t ys) (filter t ys)
    go true e (inl k) ih = inl k
    go true e (inr k) ih = inr (ih k)
    go false e (inl k) ih = absurd (both_ways (t y) e (ap t (sym k) ∙ h))
    go false e (inr k) ih = ih k

pub kept_by_all : {X : Type 0} (t : X → Bool) (xs : List X) → ((x : X) → x ∈ xs → t x ≡ true) → filter t xs ≡ xs
kept_by_all t [] h = refl
kept_by_all t (y ∷ ys) h = rw (h y (inl refl)) (ap (λ zs. y ∷ zs) (kept_by_all t ys (λ x m. h x (inr m))))

-- two tests that agree on the members
pub kept_by_same : {X : Type 0} (t u : X → Bool) (xs : List X) → ((x : X) → x ∈ xs → t x ≡ u x) → filter t xs ≡ filter u xs
kept_by_same t u [] h = refl
kept_by_same {X} t u (x ∷ xs) h =
    rw (h x (inl refl)) (ap (λ (ys : List X). cond (u x) (x ∷ ys) ys) (kept_by_same t u xs (λ y m. h y (inr m))))

-- a test that lets pass what another picks
pub kept_by_twice : {X : Type 0} (t u : X → Bool) (xs : List X) → ((x : X) → x ∈ xs → t x ≡ true → u x ≡ true) → filter t (filter u xs) ≡ filter t xs
kept_by_twice t u [] h = refl
kept_by_twice {X} t u (x ∷ xs) h = go (t x) refl (u x) refl (kept_by_twice t u xs (λ y m. h y (inr m)))
  where
    go : (a : Bool) → t x ≡ a → (b : Bool) → u x ≡ b → filter t (filter u xs) ≡ filter t xs →
        filter t (cond b (x ∷ filter u xs) (filter u xs)) ≡ cond a (x ∷ filter t xs) (filter t xs)
    go true e true f ih = rw e (ap (λ (ys : List X). x ∷ ys) ih)
    go true e false f ih = absurd (both_ways (u x) f (h x (inl refl) e))
    go false e true f ih = rw e ih
    go false e false f ih = ih

pub length_kept_by_le : {X : Type 0} (t : X → Bool) (xs : List X) → length (filter t xs) ≤ length xs
length_kept_by_le t xs = omega (arith, length-filter t xs, count_by-le-length t xs)

-- the first that passes
pub first_in : {X : Type 0} (t : X → Bool) (xs : List X) (x : X) → first_of t xs ≡ Some x → (x ∈ xs) × (t x ≡ true)
first_in t [] x e = absurd (none_some refl e)
first_in {X} t (y ∷ ys) x e = go (t y) refl e (first_in t ys x)
  where
    go : (b : Bool) → t y ≡ b → cond b (Some y) (first_of t ys) ≡ Some x → (first_of t ys ≡ Some x → (x ∈ ys) × (t x ≡ true)) → (x ∈ (y ∷ ys)) × (t x ≡ true)
    go true h e ih = let s : y ≡ x = cc in (inl (sym s), ap t (sym s) ∙ h)
    go false h e ih = (inr (ih e).0, (ih e).1)

pub first_none : {X : Type 0} (t : X → Bool) (xs : List X) (x : X) → first_of t xs ≡ None → x ∈ xs → t x ≡ false
first_none t [] x e m = absurd m
first_none {X} t (y ∷ ys) x e m = go (t y) refl e m (first_none t ys x)
  where
    go : (b : Bool) → t y ≡ b → cond b (Some y) (first_of t ys) ≡ None → x ∈ (y ∷ ys) → (first_of t ys ≡ None → x ∈ ys → t x ≡ false) → t x ≡ false
    go true h e m ih = absurd (none_some e refl)
    go false h e (inl s) ih = ap t s ∙ h
    go false h e (inr n) ih = ih e n

pub first_only : {X : Type 0} (t : X → Bool) (xs : List X) (x : X) → x ∈ xs → t x ≡ true → ((y : X) → y ∈ xs → t y ≡ true → y ≡ x) → first_of t xs ≡ Some x
first_only {X} t xs x m h only = go (first_of t xs) refl
  where
    go : (o : Option X) → first_of t xs ≡ o → o ≡ Some x
    go None e = absurd (both_ways (t x) (first_none t xs x e m) h)
    go (Some y) e = let k = first_in t xs y e in ap {B = Option X} Some (only y k.0 k.1)

pub first_nothing : {X : Type 0} (t : X → Bool) (xs : List X) → ((x : X) → x ∈ xs → t x ≡ true → ⊥) → first_of t xs ≡ None
first_nothing {X} t xs h = go (first_of t xs) refl
  where
    go : (o : Option X) → first_of t xs ≡ o → o ≡ None
    go None e = refl
    go (Some y) e = let k = first_in t xs y e in absurd (h y k.0 k.1)

-- members of a sum of lists
pub in_append : {X : Type 0} (xs ys : List X) (x : X) → x ∈ (xs ++ ys) → (x ∈ xs) ⊎ (x ∈ ys)
in_append [] ys x m = inr m
in_append (y ∷ xs) ys x (inl e) = inl (inl e)
in_append (y ∷ xs) ys x (inr m) = elim (in_append xs ys x m) [ inl k ↦ inl (inr k) | inr k ↦ inr k ]

pub append_left : {X : Type 0} (xs ys : List X) (x : X) → x ∈ xs → x ∈ (xs ++ ys)
append_left [] ys x m = absurd m
append_left (y ∷ xs) ys x (inl e) = inl e
append_left (y ∷ xs) ys x (inr m) = inr (append_left xs ys x m)

pub append_right : {X : Type 0} (xs ys : List X) (x : X) → x ∈ ys → x ∈ (xs ++ ys)
append_right [] ys x m = m
append_right (y ∷ xs) ys x m = inr (append_right xs ys x m)

-- what holds pairwise
pub pairwise_kept_by : {X : Type 0} (R : X → X → Type 0) (t : X → Bool) (xs : List X) → Pairwise R xs → Pairwise R (filter t xs)
pairwise_kept_by R t [] h = tt
pairwise_kept_by {X} R t (x ∷ xs) h = go (t x) (pairwise_kept_by R t xs h.1)
  where
    go : (b : Bool) → Pairwise R (filter t xs) → Pairwise R (cond b (x ∷ filter t xs) (filter t xs))
    go true ih = (λ y m. h.0 y (kept_by_in t xs y m).0, ih)
    go false ih = ih

pub pairwise_weaker : {X : Type 0} (R S : X → X → Type 0) (xs : List X) → ((x y : X) → x ∈ xs → y ∈ xs → R x y → S x y) → Pairwise R xs → Pairwise S xs
pairwise_weaker R S [] f h = tt
pairwise_weaker R S (x ∷ xs) f h =
    (λ y m. f x y (inl refl) (inr m) (h.0 y m), pairwise_weaker R S xs (λ a b m n. f a b (inr m) (inr n)) h.1)

pub pairwise_append : {X : Type 0} (R : X → X → Type 0) (xs ys : List X) → Pairwise R xs → Pairwise R ys → ((x y : X) → x ∈ xs → y ∈ ys → R x y) → Pairwise R (xs ++ ys)
pairwise_append R [] ys h k c = k
pairwise_append R (x ∷ xs) ys h k c = (
  λ y m. elim (in_append xs ys y m) [ inl n ↦ h.0 y n | inr n ↦ c x y (inl refl) n ],
  pairwise_append R xs ys h.1 k (λ a b m n. c a b (inr m) n),
)

pub pairwise_two : {X : Type 0} (R : X → X → Type 0) (xs : List X) (x y : X) → Pairwise R xs → x ∈ xs → y ∈ xs → (x ≡ y) ⊎ (R x y ⊎ R y x)
pairwise_two R [] x y h m n = absurd m
pairwise_two R (z ∷ zs) x y h (inl e) (inl k) = inl (e ∙ sym k)
pairwise_two R (z ∷ zs) x y h (inl e) (inr n) = inr (inl (rw e (h.0 y n)))
pairwise_two R (z ∷ zs) x y h (inr m) (inl k) = inr (inr (rw k (h.0 x m)))
pairwise_two R (z ∷ zs) x y h (inr m) (inr n) = pairwise_two R zs x y h.1 m n

-- sums
pub sum_mono : {X : Type 0} (f g : X → ℕ) (xs : List X) → ((x : X) → x ∈ xs → f x ≤ g x) → sum_by f xs ≤ sum_by g xs
sum_mono f g [] h = zero-le
sum_mono f g (x ∷ xs) h = rw (sum_by-cons f x xs, sum_by-cons g x xs) (omega (arith, h x (inl refl), sum_mono f g xs (λ y m. h y (inr m))))

pub sum_times : {X : Type 0} (k : ℕ) (f : X → ℕ) (xs : List X) → k * sum_by f xs ≡ sum_by (λ x. k * f x) xs
sum_times k f [] = omega arith
sum_times k f (x ∷ xs) = rw (sum_by-cons f x xs, sum_by-cons (λ x. k * f x) x xs) (omega (arith, sum_times k f xs))

sum_add : {X : Type 0} (f g : X → ℕ) (xs : List X) → sum_by (λ x. f x + g x) xs ≡ sum_by f xs + sum_by g xs
sum_add f g [] = refl
sum_add f g (x ∷ xs) = rw (sum_by-cons f x xs, sum_by-cons g x xs, sum_by-cons (λ x. f x + g x) x xs) (omega (arith, sum_add f g xs))

pub member_le : {X : Type 0} (f : X → ℕ) (xs : List X) (x : X) → x ∈ xs → f x ≤ sum_by f xs
member_le f [] x m = absurd m
member_le f (y ∷ ys) x (inl e) = rw (sum_by-cons f y ys) (omega (arith, ap f e))
member_le f (y ∷ ys) x (inr m) = rw (sum_by-cons f y ys) (omega (arith, member_le f ys x m))

sum_ones : {X : Type 0} (xs : List X) → sum_by (λ (x : X). 1) xs ≡ length xs
sum_ones [] = refl
sum_ones {X} (x ∷ xs) = rw (sum_by-cons (λ (x : X). 1) x xs) (omega (arith, sum_ones xs))

sum_none : {X : Type 0} (t : X → Bool) (b : ℕ) (xs : List X) → ((x : X) → x ∈ xs → t x ≡ true → ⊥) → sum_by (λ x. cond (t x) b 0) xs ≡ 0
sum_none t b [] h = refl
sum_none t b (x ∷ xs) h = rw (sum_by-cons (λ x. cond (t x) b 0) x xs) (go (t x) refl (sum_none t b xs (λ y m. h y (inr m))))
  where
    go : (c : Bool) → t x ≡ c → sum_by (λ x. cond (t x) b 0) xs ≡ 0 → cond c b 0 + sum_by (λ x. cond (t x) b 0) xs ≡ 0
    go true e ih = absurd (h x (inl refl) e)
    go false e ih = omega arith

-- at most one member passes
sum_one : {X : Type 0} (t : X → Bool) (b : ℕ) (xs : List X) → Pairwise (λ x y. t x ≡ true → t y ≡ true → ⊥) xs → sum_by (λ x. cond (t x) b 0) xs ≤ b
sum_one t b [] h = zero-le
sum_one t b (x ∷ xs) h = rw (sum_by-cons (λ x. cond (t x) b 0) x xs) (go (t x) refl (sum_one t b xs h.1))
  where
    go : (c : Bool) → t x ≡ c → sum_by (λ x. cond (t x) b 0) xs ≤ b → cond c b 0 + sum_by (λ x. cond (t x) b 0) xs ≤ b
    go true e ih = omega (arith, sum_none t b xs (λ y m k. h.0 y m e k))
    go false e ih = omega arith

module _ {X Y : Type 0} (t : X → Y → Bool) (w : X → ℕ) (b : Y → ℕ) (ys : List Y) where
  spread : (xs : List X) → ((x : X) → x ∈ xs → (y : Y) × (y ∈ ys) × (t x y ≡ true) × (w x ≤ b y)) →
      sum_by w xs ≤ sum_by (λ y. sum_by (λ x. cond (t x y) (b y) 0) xs) ys
  spread [] h = zero-le
  spread (x ∷ xs) h =
      let r = h x (inl refl) in
      let w-cons = sum_by-cons w x xs in
      let here : cond (t x r.0) (b r.0) 0 ≡ b r.0 = rw r.2 in
      omega (
        arith,
        r.3,
        here,
        member_le (λ y. cond (t x y) (b y) 0) ys r.0 r.1,
        spread xs (λ z m. h z (inr m)),
        sum_add (λ y. cond (t x y) (b y) 0) (λ y. sum_by (λ x. cond (t x y) (b y) 0) xs) ys,
        w-cons,
        sum_mono (λ y. cond (t x y) (b y) 0 + sum_by (λ x. cond (t x y) (b y) 0) xs) (λ y. sum_by (λ x. cond (t x y) (b y) 0) (x ∷ xs)) ys
            (λ y m. omega (arith, sum_by-cons (λ x. cond (t x y) (b y) 0) x xs)),
      )

  -- each x is charged to a y that can bear it, and no y is charged twice
  pub charge : (xs : List X) → ((x : X) → x ∈ xs → (y : Y) × (y ∈ ys) × (t x y ≡ true) × (w x ≤ b y)) →
      ((y : Y) → Pairwise (λ x z. t x y ≡ true → t z y ≡ true → ⊥) xs) → sum_by w xs ≤ sum_by b ys
  charge xs h k =
      omega (
        arith,
        spread xs h,
        sum_mono (λ y. sum_by (λ x. cond (t x y) (b y) 0) xs) b ys (λ y m. sum_one (λ x. t x y) (b y) xs (k y)),
      )

pub pigeon : {X Y : Type 0} (t : X → Y → Bool) (xs : List X) (ys : List Y) → ((x : X) → x ∈ xs → (y : Y) × (y ∈ ys) × (t x y ≡ true)) →
    ((y : Y) → Pairwise (λ x z. t x y ≡ true → t z y ≡ true → ⊥) xs) → length xs ≤ length ys
pigeon t xs ys h k =
    omega (
      arith,
      sum_ones xs,
      sum_ones ys,
      charge t (λ _. 1) (λ _. 1) ys xs (λ x m. let r = h x m in (r.0, r.1, r.2, omega arith)) k,
    )

-- lists one after the other
pub in_joined : {X Y : Type 0} (f : X → List Y) (xs : List X) (x : X) (y : Y) → x ∈ xs → y ∈ f x → y ∈ flat_map f xs
in_joined f [] x y m n = absurd m
in_joined {X} {Y} f (z ∷ zs) x y (inl e) n = append_left (f z) (flat_map f zs) y (subst (λ (a : X). y ∈ f a) e n)
in_joined f (z ∷ zs) x y (inr m) n = append_right (f z) (flat_map f zs) y (in_joined f zs x y m n)

pub sum_joined : {X Y : Type 0} (b : Y → ℕ) (f : X → List Y) (xs : List X) → sum_by b (flat_map f xs) ≡ sum_by (λ x. sum_by b (f x)) xs
sum_joined b f [] = refl
sum_joined {X} b f (x ∷ xs) =
    omega (arith, sum_by-append b (f x) (flat_map f xs), sum_joined b f xs, sum_by-cons (λ (x : X). sum_by b (f x)) x xs)

-- a list by its levels
pub length_below : {X : Type 0} (f : X → ℕ) (m : ℕ) (xs : List X) →
    length (filter (λ x. ltb (f x) (suc m)) xs) ≡ length (filter (λ x. ltb (f x) m) xs) + length (filter (λ x. eqb (f x) m) xs)
length_below f m [] = refl
length_below f m (x ∷ xs) = let ih = length_below f m xs in grind (arith, nat_tests)

none_below : {X : Type 0} (f : X → ℕ) (xs : List X) → length (filter (λ x. ltb (f x) 0) xs) ≡ 0
none_below f [] = refl
none_below f (x ∷ xs) = let ih = none_below f xs in grind (arith, nat_tests)

-- at most b of each level
pub by_levels : {X : Type 0} (f : X → ℕ) (xs : List X) (b m : ℕ) → ((j : ℕ) → j < m → length (filter (λ x. eqb (f x) j) xs) ≤ b) →
    length (filter (λ x. ltb (f x) m) xs) ≤ m * b
by_levels f xs b zero h = omega (arith, none_below f xs)
by_levels f xs b (suc m) h = omega (arith, length_below f m xs, by_levels f xs b m (λ j lt. h j (omega arith)), h m (omega arith))
