-- Lines written one after the other, and the numbers that a board lists as the lines of its pairs.
use Rattle.std.proofs.Common.{◌≡◌, ℕ, ◌-◌, ◌*◌, ◌≤◌, false, List, [], ◌∷◌, ◌++◌, length, get_or, take, drop, Ok, Result, refl, ap, ◌∙◌, subst, append_assoc, arith}
use Rattle.std.proofs.lemmas.List.{take_all, take_at}
use Rattle.std.proofs.lemmas.Bool.{cond-false, le-ltb}
use Rattle.proposals.specs.declared.proposals.Proposal.{Proposal}
use Rattle.proposals.specs.declared.refusals.Refusal.{Refusal}
use Rattle.matching.specs.Canonical.{listing}
use Rattle.matching.specs.Meanings.{Meaning, Lawful, bare, kept_of}
use Rattle.runs.specs.Runs.Run.{none}
use Rattle.runs.proofs.Law.{law}
use Rattle.board.specs.Reading.{count_of, listed_in, short}
use Rattle.board.proofs.Answering.{length_listing}
use Rattle.feeding.specs.Texts.{Feeding}
use Rattle.feeding.specs.declared.feeding.Stop.{Stop}
use Rattle.listing.specs.Report.{Reports, heading, line_of, numbers_text, pair_line, pairs_text, stop_text}

-- one line more is written, and its three numbers are left out of those that are still to be written
pub line_more : (out out' whole ns : List ℕ) → 3 ≤ length ns → out' ≡ out ++ pair_line (get_or ns 0 0) (get_or ns 1 0) (get_or ns 2 0) →
    out ++ numbers_text ns ≡ whole → out' ++ numbers_text (take (length ns - 3) (drop 3 ns)) ≡ whole
line_more out out' whole [] le is h = absurd (omega arith)
line_more out out' whole (low ∷ []) le is h = absurd (omega arith)
line_more out out' whole (low ∷ high ∷ []) le is h = absurd (omega arith)
line_more out out' whole (low ∷ high ∷ saving ∷ rest) le is h =
    let n = length (low ∷ high ∷ saving ∷ rest) - 3 in
    let all : take n rest ≡ rest = take_all n rest (omega arith) in
    ap (λ (xs : List ℕ). xs ++ numbers_text (take n rest)) is ∙
    ap (λ (xs : List ℕ). (out ++ pair_line low high saving) ++ numbers_text xs) all ∙
    append_assoc out (pair_line low high saving) (numbers_text rest) ∙ h

-- the numbers of a list of pairs are written as the lines of the pairs
pub listed_text : (K : List Proposal) → numbers_text (listing K) ≡ pairs_text K
listed_text [] = refl
listed_text (p ∷ K) = ap (λ (xs : List ℕ). line_of p ++ xs) (listed_text K)

-- a row of 384 numbers takes the list of a lawful keeper's kept pairs
module _ (m : Meaning) (row : List ℕ) (h : Lawful m) (long : length row ≡ 384) where
  fits : 3 * length (kept_of m) ≤ length row
  fits = omega (arith, (law m m [] h none).fits)

  long_enough : short m (length row) ≡ false
  long_enough = le-ltb (length row) (3 * length (kept_of m)) fits

  listed : (r : Result ℕ Refusal) → r ≡ count_of m (length row) → r ≡ Ok (length (kept_of m))
  listed r is = is ∙ cond-false (short m (length row)) _ _ long_enough

  -- and its numbers then stand in front
  pub in_front : (r : Result ℕ Refusal) (k : ℕ) (row' : List ℕ) → r ≡ count_of m (length row) → row' ≡ listed_in m row → r ≡ Ok k →
      take (3 * k) row' ≡ listing (kept_of m)
  in_front r k row' is written ok =
      let n = 3 * k in
      let xs = listing (kept_of m) in
      let count : k ≡ length (kept_of m) = let e : r ≡ Ok (length (kept_of m)) = listed r is in cc in
      let places : length xs ≡ n = omega (arith, length_listing (kept_of m)) in
      ap (take n) (written ∙ cond-false (short m (length row)) _ _ long_enough) ∙ take_at xs (drop (3 * length (kept_of m)) row) n places

-- what is printed for a text that was fed to a board, whose list was then written
pub reported : (capacity : ℕ) (text printed numbers : List ℕ) (m₀ m : Meaning) (fed : Result ℕ Stop) → m₀ ≡ bare 256 capacity → Feeding text m₀ fed m →
    numbers ≡ listing (kept_of m) → printed ≡ heading ++ (numbers_text numbers ++ stop_text fed) → Reports 256 capacity text printed
reported capacity text printed numbers m₀ m fed first feeding listed is =
    record {
      meaning = m;
      fed = fed;
      feeding = subst (λ (x : Meaning). Feeding text x fed m) first feeding;
      whole = is ∙ ap (λ (xs : List ℕ). heading ++ (xs ++ stop_text fed)) (ap numbers_text listed ∙ listed_text (kept_of m));
    }
