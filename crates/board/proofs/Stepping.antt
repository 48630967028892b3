-- Each call of a board as a step of a run, and a run that grows by a call.
use Rattle.std.proofs.Common.{◌≡◌, ℕ, zero, suc, ◌+◌, ◌*◌, ◌<◌, ◌≤◌, min, leb, List, [], ◌∷◌, ◌++◌, length, get_or, take, drop, set, Some, None, Ok, Err, Option, Result, sym, refl, ap, ◌∙◌, subst, inl, inr, append_assoc, arith}
use Rattle.std.proofs.lemmas.List.{take_more, take_more_set, take-append-le, take_all, length-take-le}
use Rattle.std.proofs.lemmas.Bool.{cases_Bool, cond-true, cond-false, ltb-true, ltb-false, lt-ltb, le-ltb}
use Rattle.proposals.specs.declared.proposals.Proposal.{Proposal}
use Rattle.proposals.specs.declared.pairs.Pair.{Pair}
use Rattle.proposals.specs.declared.refusals.Refusal.{Refusal}
use Rattle.proposals.specs.declared.refusals.Reason.TheVariants.{MeterOutsideGroup, RowTooShort}
use Rattle.matching.specs.Matching.{total}
use Rattle.matching.specs.Canonical as canonical
use Rattle.matching.specs.Meanings.{Meaning, Lawful, kept_of}
use Rattle.runs.specs.Runs as runs
use Rattle.runs.specs.Runs.{Step, Run, found}
use Rattle.runs.specs.Runs.Call.{propose, withdraw, partner, saved, list}
use Rattle.runs.specs.Runs.Answer.{counts, partnered, sum, listed, refused}
use Rattle.runs.specs.Runs.Step.{refuses, proposes, withdraws, partners, sums, lists}
use Rattle.runs.specs.Runs.Run.{none}
use Rattle.runs.proofs.Law.{law, run_on}
use Rattle.board.specs.declared.replaying.Call.{Call}
use Rattle.board.specs.declared.replaying.Answer.{Answer}
use Rattle.board.specs.Calls.{Counted, Proposes, Withdraws}
use Rattle.board.specs.Reading.{partner_of, count_of, listed_in, short}
use Rattle.board.proofs.Answering.{length_listing}
use Rattle.board.specs.Replaying.{call_of, answer_of, event_of, events_of, counting, partnering, listing}

-- the same step under another name of its call and its answer
pub named : {m m' : Meaning} {call call' : runs.Call} {answer answer' : runs.Answer} → call ≡ call' → answer ≡ answer' → Step m call' answer' m' → Step m call answer m'
named {m} {m'} p q s = subst (λ (x : runs.Call × runs.Answer). Step m x.0 x.1 m') (λ i. (sym p i, sym q i)) s

counts_are : (m m' : Meaning) (c : ℕ × ℕ) → Counted m m' c → counts c.0 c.1 ≡ runs.counted m m'
counts_are m m' c n = λ i. counts (n.kept i) (n.choice i)

pub propose_step : (m m' : Meaning) (p : Proposal) (r : Result (ℕ × ℕ) Refusal) → Proposes m p r m' → Step m (propose p) (counting r) m'
propose_step m m' p (Ok c) h = named refl (counts_are m m' c h.2) (proposes h.0 h.1)
propose_step m m' p (Err e) h = subst (λ (x : Meaning). Step m (propose p) (refused e) x) (sym h.1) (refuses h.0)

pub withdraw_step : (m m' : Meaning) (pair : Pair) (r : Result (ℕ × ℕ) Refusal) → Withdraws m pair r m' → Step m (withdraw pair) (counting r) m'
withdraw_step m m' pair (Ok c) h = named refl (counts_are m m' c h.2) (withdraws h.0 h.1)
withdraw_step m m' pair (Err e) h = subst (λ (x : Meaning). Step m (withdraw pair) (refused e) x) (sym h.1) (refuses h.0)

pub partner_step : (m : Meaning) (v : ℕ) (r : Result (Option (ℕ × ℕ)) Refusal) → r ≡ partner_of m v → Step m (partner v) (partnering r) m
partner_step m v r is =
    elim (cases_Bool (leb m.size v)) [
      | inl e ↦ named refl (ap partnering (is ∙ cond-true (leb m.size v) _ _ e)) (refuses (cond-true (leb m.size v) (Some (found MeterOutsideGroup)) None e))
      | inr e ↦ named refl (ap partnering (is ∙ cond-false (leb m.size v) _ _ e)) (partners (cond-false (leb m.size v) (Some (found MeterOutsideGroup)) None e))
    ]

pub saved_step : (m : Meaning) (r : ℕ) → r ≡ total (kept_of m) → Step m saved (sum r) m
saved_step m r is = named refl (ap sum is) sums

take_front : (n : ℕ) (xs ys zs : List ℕ) → length xs ≡ n → take n ((xs ++ ys) ++ zs) ≡ xs
take_front n xs ys zs e = ap (take n) (append_assoc xs ys zs) ∙ take-append-le n xs (ys ++ zs) (omega arith) ∙ take_all n xs (omega arith)

-- a list in the first `places` of a row that has room for every list, answered as for a row of so many numbers
pub list_step : (m : Meaning) (places : ℕ) (r : Result ℕ Refusal) (row row' rest : List ℕ) → Lawful m → length row ≡ min places 384 →
    r ≡ count_of m (length row) → row' ≡ listed_in m row → Step m (list places) (listing r (row' ++ rest)) m
list_step m places r row row' rest h w is written =
    let fits : 3 * length (kept_of m) ≤ 384 = (law m m [] h none).fits in
    elim (cases_Bool (short m (length row))) [
      | inl e ↦
          let lt : places < 3 * length (kept_of m) = omega (arith, ltb-true (length row) (3 * length (kept_of m)) e) in
          named refl (ap (λ (x : Result ℕ Refusal). listing x (row' ++ rest)) (is ∙ cond-true (short m (length row)) _ _ e))
          (refuses (cond-true (short m places) (Some (found RowTooShort)) None (lt-ltb places (3 * length (kept_of m)) lt)))
      | inr e ↦
          let le : 3 * length (kept_of m) ≤ places = omega (arith, ltb-false (length row) (3 * length (kept_of m)) e) in
          let front : row' ++ rest ≡ (canonical.listing (kept_of m) ++ drop (3 * length (kept_of m)) row) ++ rest =
          ap (λ (xs : List ℕ). xs ++ rest) (written ∙ cond-false (short m (length row)) _ _ e)
          in
          named refl
          (ap (λ (x : Result ℕ Refusal). listing x (row' ++ rest)) (is ∙ cond-false (short m (length row)) _ _ e) ∙ ap (listed (length (kept_of m))) (ap (take (3 * length (kept_of m))) front ∙ take_front (3 * length (kept_of m)) _ _ rest (length_listing (kept_of m))))
          (lists (cond-false (short m places) (Some (found RowTooShort)) None (le-ltb places (3 * length (kept_of m)) le)))
    ]

-- one more call with its answer
events_more : (calls : List Call) (answers : List (Result Answer Refusal)) (c : Call) (a : Result Answer Refusal) → length calls ≡ length answers →
    events_of (calls ++ c ∷ []) (answers ++ a ∷ []) ≡ events_of calls answers ++ event_of c a ∷ []
events_more [] [] c a e = refl
events_more [] (y ∷ ys) c a e = absurd (omega arith)
events_more (x ∷ xs) [] c a e = absurd (omega arith)
events_more (x ∷ xs) (y ∷ ys) c a e = ap (λ (es : List runs.Event). event_of x y ∷ es) (events_more xs ys c a (omega arith))

-- the calls and the answers past the end of the other list make no event
pub events_short : (n : ℕ) (calls : List Call) (answers : List (Result Answer Refusal)) → min (length calls) (length answers) ≤ n →
    events_of (take n calls) (take n answers) ≡ events_of calls answers
events_short zero [] answers h = refl
events_short zero (x ∷ xs) [] h = refl
events_short zero (x ∷ xs) (y ∷ ys) h = absurd (omega arith)
events_short (suc n) [] answers h = refl
events_short (suc n) (x ∷ xs) [] h = refl
events_short (suc n) (x ∷ xs) (y ∷ ys) h = ap (λ (es : List runs.Event). event_of x y ∷ es) (events_short n xs ys (omega arith))

-- a run grows by a call and its answer
pub run_more : (m₀ m m' : Meaning) (calls : List Call) (answers : List (Result Answer Refusal)) (i : ℕ) (c : Call) (a : Result Answer Refusal) → i < length calls → i < length answers →
    c ≡ get_or calls i c → Run m₀ (events_of (take i calls) (take i answers)) m → Step m (call_of c) (answer_of a) m' →
    Run m₀ (events_of (take (i + 1) calls) (take (i + 1) (set answers i a))) m'
run_more m₀ m m' calls answers i c a hc ha is r s =
    subst (λ (es : List runs.Event). Run m₀ es m') (sym grown) (run_on m₀ (events_of (take i calls) (take i answers)) m (event_of c a) m' r s)
  where
    grown : events_of (take (i + 1) calls) (take (i + 1) (set answers i a)) ≡ events_of (take i calls) (take i answers) ++ event_of c a ∷ []
    grown =
        (λ j. events_of ((take_more calls i c hc ∙ ap (λ (x : Call). take i calls ++ x ∷ []) (sym is)) j) (take_more_set answers i a ha j))
        ∙ events_more (take i calls) (take i answers) c a (omega (arith, length-take-le i calls (omega arith), length-take-le i answers (omega arith)))
