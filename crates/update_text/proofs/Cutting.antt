-- Lists that are split at a mark.
use Rattle.std.proofs.Common.{◌≡◌, ℕ, ◌+◌, ◌-◌, ◌<◌, ◌≤◌, ◌==◌, true, false, not, List, [], length, get_or, take, drop, Some, None, sym, ap, ◌∙◌, subst, ⊎_elim, add-zero, arith, length-append, length-drop, take-append-drop, length-take-le, get_or-drop, get_or-take, eq-eqb, false-eqb}
use Rattle.std.specs.List.{position}
use Rattle.std.proofs.lemmas.List.{append-nil, drop-drop, take_rest}
use Rattle.std.proofs.lemmas.List.Quantifiers.{position-Some}
use Rattle.std.proofs.lemmas.Bool.{both_ways, cases_eq, eqb-true, ne_eqb}
use Rattle.update_text.specs.Steps.{TookPart, is_end, rest_of, start_of, unread}
use Rattle.update_text.specs.declared.parts.Part.{Part}
use Rattle.update_text.specs.declared.parts.Parts.{Parts}
use Rattle.update_text.specs.Cuts.{Splits}
use Rattle.update_text.proofs.Places.{position_none}

-- what stands before the first mark, and the rest from the mark on
split_at : (mark : ℕ) (all : List ℕ) (n : ℕ) → n < length all → get_or all n 0 ≡ mark → ((k : ℕ) → k < n → get_or all k 0 ≡ mark → ⊥) → Splits mark all (take n all) (drop n all)
split_at mark all n low stop free =
    let long : length (take n all) ≡ n = length-take-le n all (omega arith) in
    record {
      whole = take-append-drop n all;
      free = λ i lt is. free i (omega arith) (sym (get_or-take n all i 0 (omega arith)) ∙ is);
      stops = λ some. get_or-drop n all 0 0 ∙ ap (λ i. get_or all i 0) (add-zero n) ∙ stop;
    }

-- a part up to a mark was read
pub took_marked : (s t : Parts) (p : Part) (n : ℕ) → unread s ≡ true → position (λ b. b == s.mark) (rest_of s) ≡ Some n → p.bytes.now ≡ take n (rest_of s) → p.at ≡ start_of s → p.marked ≡ true →
    t.mark ≡ s.mark → t.end ≡ s.end → unread t ≡ true → rest_of t ≡ take (length (rest_of s) - (n + 1)) (drop (n + 1) (rest_of s)) → TookPart s p t
took_marked s t p n was found bytes at marked mark end more rest =
    let first = position-Some (λ b. b == s.mark) (rest_of s) n 0 found in
    let some : not (length (drop n (rest_of s)) == 0) ≡ true = ap not (ne_eqb _ 0 (λ z. omega (arith, length-drop n (rest_of s)))) in
    record {
      was = was;
      after = drop n (rest_of s);
      cut = subst (λ front. Splits s.mark (rest_of s) front (drop n (rest_of s))) (sym bytes)
          (split_at s.mark (rest_of s) n first.0 (eqb-true _ _ first.1) (λ k lt is. both_ways _ (first.2 k lt) (eq-eqb _ _ is)));
      start = at;
      mark = mark;
      end = end;
      marked = marked ∙ sym some;
      more = more ∙ sym marked;
      rest = rest ∙ take_rest (rest_of s) (n + 1) ∙ sym (drop-drop 1 n (rest_of s));
    }

-- the last part was read
pub took_last : (s t : Parts) (p : Part) → unread s ≡ true → position (λ b. b == s.mark) (rest_of s) ≡ None → p.bytes.now ≡ rest_of s → p.at ≡ start_of s → p.marked ≡ false →
    t.mark ≡ s.mark → t.end ≡ s.end → unread t ≡ false → rest_of t ≡ [] → TookPart s p t
took_last s t p was found bytes at marked mark end more rest = record {
  was = was;
  after = [];
  cut = record {
    whole = append-nil p.bytes.now ∙ bytes;
    free = λ i lt is. both_ways _ (position_none (λ b. b == s.mark) (rest_of s) found i 0 (omega (arith, ap length bytes))) (eq-eqb _ _ (ap (λ l. get_or l i 0) (sym bytes) ∙ is));
    stops = λ some. absurd (omega arith);
  };
  start = at;
  mark = mark;
  end = end;
  marked = marked;
  more = more ∙ sym marked;
  rest = rest;
}

pub shorter : (mark : ℕ) (all front rest : List ℕ) → Splits mark all front rest → length front + length rest ≡ length all
shorter mark all front rest h = let e = simp length-append at (ap length h.whole) in omega arith

-- what is left after a part is at most what was there
pub part_left : (s : Parts) (p : Part) (t : Parts) → TookPart s p t → length (rest_of t) ≤ length (rest_of s)
part_left s p t h =
    let whole = shorter s.mark (rest_of s) p.bytes.now h.after h.cut in
    omega (arith, ap length h.rest ∙ length-drop 1 h.after)

-- a line that was read leaves less than there was, unless it is the empty end of the text
pub part_falls : (s : Parts) (p : Part) (t : Parts) → TookPart s p t → false ≡ is_end p → length (rest_of t) < length (rest_of s)
part_falls s p t h some =
    let whole = shorter s.mark (rest_of s) p.bytes.now h.after h.cut in
    let left : length (rest_of t) ≡ length h.after - 1 = ap length h.rest ∙ length-drop 1 h.after in
    ⊎_elim
    (λ z. let unmarked : p.marked ≡ false = h.marked ∙ ap not (eq-eqb (length h.after) 0 z) in
    let bytes : length p.bytes.now ≡ 0 → ⊥ = false-eqb (length p.bytes.now) 0 (rw unmarked at some) in omega arith)
    (λ nz. omega arith)
    (cases_eq (length h.after) 0)
