-- What a rotation of a part does to a list: it moves one element in, or out.
use Rattle.std.proofs.Common.{◌≡◌, ℕ, suc, ◌+◌, ◌-◌, ◌<◌, ◌≤◌, List, [], ◌∷◌, ◌++◌, length, take, drop, set, ap, ◌∙◌, add-one, arith, length-append, length-drop, length-set, length-take, take-take, drop-drop, take_at, drop_at}
use lib.Seq.{set_split, drop-append-le, take-append-le, take-append-add, take-set-le}
use borrow.Rule.Slice.PartMut.{put_mid, post_of}
use Rattle.std.specs.List.{insert, remove, between}
use Rattle.std.proofs.lemmas.Slice.{take-put_mid, between_is}

-- the part from `i` to `n`, after `x` was written at `n`
pub part_in : {X : Type 0} (xs : List X) (i n : ℕ) (x : X) → i ≤ n → n < length xs → between i (n + 1) (set xs n x) ≡ drop i (take n xs) ++ x ∷ []
part_in xs i n x le lt =
    let a : i ≤ length (take n xs) = simp length-take (omega arith) in
    let e : length (drop i (take n xs)) + 1 ≡ n + 1 - i = simp (length-drop, length-take) (omega arith) in
    let p : take (length (drop i (take n xs)) + 1) (drop i (take n xs) ++ x ∷ drop (suc n) xs) ≡ drop i (take n xs) ++ take 1 (x ∷ drop (suc n) xs) = take-append-add (drop i (take n xs)) (x ∷ drop (suc n) xs) 1 in
    rw (set_split xs n x lt, drop-append-le i (take n xs) (x ∷ drop (suc n) xs) a, ← e) p

-- such a part, turned right by one place
pub turned_in : {X : Type 0} (xs : List X) (i n : ℕ) (x : X) (p : List X) → i ≤ n → n < length xs → p ≡ between i (n + 1) (set xs n x) → drop (length p - 1) p ++ take (length p - 1) p ≡ x ∷ drop i (take n xs)
turned_in xs i n x p le lt e =
    let q = drop i (take n xs) in
    let w : p ≡ q ++ x ∷ [] = e ∙ part_in xs i n x le lt in
    let l : length q ≡ length (q ++ x ∷ []) - 1 = simp length-append (omega arith) in
    rw (w, drop_at q (x ∷ []) (length (q ++ x ∷ []) - 1) l, take_at q (x ∷ []) (length (q ++ x ∷ []) - 1) l)

-- a list, once `x` is written at `n` and the part from `i` on is turned right
pub put_in : {X : Type 0} (xs p r : List X) (i n : ℕ) (x : X) → i ≤ n → n < length xs → p ≡ between i (n + 1) (set xs n x) → r ≡ drop (length p - 1) p ++ take (length p - 1) p → take (n + 1) (put_mid i (n + 1 - i) (set xs n x) r) ≡ insert (take n xs) i x
put_in xs p r i n x le lt e f =
    let t : r ≡ x ∷ drop i (take n xs) = f ∙ turned_in xs i n x p le lt e in
    let l : n + 1 ≡ i + length r = rw t (simp (length-drop, length-take) (omega arith)) in
    let b : i ≤ length (set xs n x) = simp length-set (omega arith) in
    take-put_mid i (n + 1 - i) (set xs n x) r (n + 1) l b ∙ rw (take-set-le i xs n x le, t, take-take i n xs le)

-- the part from `i` to `n`, without its first
pub part_out : {X : Type 0} (xs : List X) (i n : ℕ) → drop 1 (between i n xs) ≡ drop (suc i) (take n xs)
part_out xs i n = ap (drop 1) (between_is xs i n) ∙ drop-drop 1 i (take n xs) ∙ ap (λ k. drop k (take n xs)) (add-one i)

-- a list, once the part from `i` to `n` is turned left
pub take_out : {X : Type 0} (xs p r : List X) (i n : ℕ) → i < n → n ≤ length xs → p ≡ between i n xs → r ≡ drop 1 p ++ take 1 p → take (n - 1) (put_mid i (n - i) xs r) ≡ remove (take n xs) i
take_out xs p r i n lt le e f =
    let m = n - 1 - i in
    let il : i ≤ n = omega arith in
    let q = drop 1 p in
    let a : length (take i xs) + m ≡ n - 1 = simp length-take (omega arith) in
    let lp : length p ≡ n - i = rw e (simp (length-take, length-drop) (omega arith)) in
    let lq : length q ≡ m = simp length-drop (omega arith) in
    let lr : m ≤ length r = rw f (simp length-append (omega arith)) in
    let one : take m (r ++ post_of i (n - i) xs) ≡ q = take-append-le m r (post_of i (n - i) xs) lr ∙ rw f (take_at q (take 1 p) m lq) in
    rw (← a) (take-append-add (take i xs) (r ++ post_of i (n - i) xs) m ∙ rw (one, e, part_out xs i n, take-take i n xs il))
