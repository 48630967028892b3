-- The parts of a list of bytes, read one after another.
use Rattle.std.proofs.Common.{◌≡◌, ℕ, ◌+◌, ◌^◌, ◌<◌, ◌≤◌, true, false, cond, not, eqb, ltb, List, [], ◌∷◌, ◌++◌, length, get_or, take, drop, sym, ap, ◌∙◌, ⊎_elim, add-zero, arith, length-drop}
use lib.Dec.{eqb-suc-zero}
use Rattle.std.proofs.lemmas.List.{append-nil, drop-drop, get_or-drop, take_more}
use Rattle.std.proofs.lemmas.Bool.{cases_Bool, le-ltb, lt-ltb, eq-eqb, cond-true, cond-false, both_ways}
use Rattle.update_text.specs.Cuts.{Splits, cut, width}
use Rattle.update_text.specs.Steps.{Started, TookPart, rest_of, unread}
use Rattle.update_text.specs.declared.parts.Part.{Part}
use Rattle.update_text.specs.declared.parts.Parts.{Parts}
use Rattle.update_text.proofs.Cutting.{shorter}
use Rattle.update_text.proofs.Joining.{cut_first, cut_free, cut_some}

-- the parts of a list that is split at its first mark
cut_split : (mark : ℕ) (all front after : List ℕ) → Splits mark all front after → cut mark all ≡ front ∷ cond (not (eqb (length after) 0)) (cut mark (drop 1 after)) []
cut_split mark all front [] h = ap (cut mark) (sym h.whole ∙ append-nil front) ∙ cut_free mark front h.free
cut_split mark all front (x ∷ rest) h =
    let is : x ≡ mark = h.stops (omega arith) in
    ap (cut mark) (sym h.whole ∙ ap (λ c. front ++ c ∷ rest) is) ∙ cut_first mark front rest h.free ∙
    ap (λ b. front ∷ cond (not b) (cut mark rest) []) (sym (eqb-suc-zero (length rest)))

-- the parts that are still to be read
abbrev left : Parts → List (List ℕ)
left s = cond (unread s) (cut s.mark (rest_of s)) []

took_left : (s : Parts) (p : Part) (t : Parts) → TookPart s p t → left s ≡ p.bytes.now ∷ left t
took_left s p t h =
    let before : left s ≡ cut s.mark (rest_of s) = cond-true _ _ _ h.was in
    let more : unread t ≡ not (eqb (length h.after) 0) = h.more ∙ h.marked in
    let split = cut_split s.mark (rest_of s) p.bytes.now h.after h.cut in
    let mark = h.mark in
    let rest = h.rest in
    cc

width_push : (ps : List (List ℕ)) (p : List ℕ) → width (ps ++ p ∷ []) ≡ width ps + (length p + 1)
width_push [] p = omega arith
width_push (q ∷ qs) p = omega (arith, width_push qs p)

-- what a list begins with, where it begins after `place` others
at_front : (ps : List (List ℕ)) (place : ℕ) (p : List ℕ) (qs : List (List ℕ)) → drop place ps ≡ p ∷ qs → (place < length ps) × (get_or ps place [] ≡ p) × (drop (place + 1) ps ≡ qs)
at_front ps place p qs e =
    let n = ap length e in (
      omega (arith, length-drop place ps),
      ap (λ m. get_or ps m []) (sym (add-zero place)) ∙ sym (get_or-drop place ps 0 []) ∙ ap (λ l. get_or l 0 []) e,
      sym (drop-drop 1 place ps) ∙ ap (λ l. drop 1 l) e,
    )

-- s stands before the part at a place of the bytes, which begin at the byte `at`
pub record Before (mark : ℕ) (bytes : List ℕ) (at place : ℕ) (s : Parts) : Type 0 where
  pub parts : left s ≡ drop place (cut mark bytes)
  pub end : at + length bytes < 2 ^ 64 → s.end ≡ at + length bytes
  pub passed : unread s ≡ true → width (take place (cut mark bytes)) + length (rest_of s) ≡ length bytes

pub before_first : (mark : ℕ) (bytes : List ℕ) (at : ℕ) (s : Parts) → Started s bytes at mark → Before mark bytes at 0 s
before_first mark bytes at s h =
    let more = h.more in let is = h.mark in let rest = h.rest in record { parts = cond-true _ _ _ more ∙ cc; end = h.end; passed = λ _. omega (arith, ap length rest) }

-- past the last part there is none
pub none_left : (mark : ℕ) (bytes : List ℕ) (at place : ℕ) (s : Parts) → Before mark bytes at place s → unread s ≡ false → length (cut mark bytes) ≤ place
none_left mark bytes at place s b done =
    let e = ap length (sym b.parts ∙ cond-false _ _ _ done) in omega (arith, length-drop place (cut mark bytes))

-- before a part that a mark precedes
some_left : (mark : ℕ) (bytes : List ℕ) (at place : ℕ) (s : Parts) → Before mark bytes at place s → unread s ≡ true → place < length (cut mark bytes)
some_left mark bytes at place s b more =
    let e = ap length (sym b.parts ∙ cond-true _ _ _ more) in
    omega (arith, length-drop place (cut mark bytes), cut_some s.mark (rest_of s))

more_is : (mark : ℕ) (bytes : List ℕ) (at place : ℕ) (s : Parts) → Before mark bytes at place s → unread s ≡ ltb place (length (cut mark bytes))
more_is mark bytes at place s b =
    ⊎_elim
    (λ more. more ∙ sym (lt-ltb place (length (cut mark bytes)) (some_left mark bytes at place s b more)))
    (λ done. done ∙ sym (le-ltb place (length (cut mark bytes)) (none_left mark bytes at place s b done)))
    (cases_Bool (unread s))

module _ (mark : ℕ) (bytes : List ℕ) (at place : ℕ) (s : Parts) (p : Part) (t : Parts) (b : Before mark bytes at place s) (h : TookPart s p t) where
  pub here : (place < length (cut mark bytes)) × (get_or (cut mark bytes) place [] ≡ p.bytes.now) × (drop (place + 1) (cut mark bytes) ≡ left t)
  here = at_front (cut mark bytes) place p.bytes.now (left t) (sym b.parts ∙ took_left s p t h)

  pub start : at + length bytes < 2 ^ 64 → p.at ≡ at + width (take place (cut mark bytes))
  start counted = omega (arith, h.start, b.end counted, b.passed h.was)

  pub after : Before mark bytes at (place + 1) t
  after = record {
    parts = sym here.2;
    end = λ counted. h.end ∙ b.end counted;
    passed = λ more.
        let some : length h.after ≡ 0 → ⊥ = λ z. both_ways _ (h.more ∙ h.marked ∙ ap not (eq-eqb (length h.after) 0 z)) more in
        let next : width (take (place + 1) (cut mark bytes)) ≡ width (take place (cut mark bytes)) + (length p.bytes.now + 1) =
        ap width (take_more (cut mark bytes) place [] here.0) ∙ ap (λ q. width (take place (cut mark bytes) ++ q ∷ [])) here.1 ∙ width_push (take place (cut mark bytes)) p.bytes.now in
        omega (arith, b.passed h.was, shorter s.mark (rest_of s) p.bytes.now h.after h.cut, ap length h.rest ∙ length-drop 1 h.after);
  }

  -- a mark follows every part but the last
  pub marked_is : p.marked ≡ ltb (place + 1) (length (cut mark bytes))
  marked_is = sym h.more ∙ more_is mark bytes at (place + 1) t after
