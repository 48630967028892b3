-- The calls on a board, their answers, one step, and whole runs, all over the meaning of the board's keeper.
use Rattle.std.specs.Prelude.{◌≡◌, ℕ, ◌*◌, Bool, true, false, cond, List, [], ◌∷◌, length, Some, None, Option, nat_le, nat_lt}
use Rattle.proposals.specs.declared.proposals.Proposal.{Proposal}
use Rattle.proposals.specs.declared.pairs.Pair.{Pair}
use Rattle.proposals.specs.declared.refusals.Refusal.{Refusal}
use Rattle.proposals.specs.declared.refusals.Reason.{Reason}
use Rattle.proposals.specs.declared.refusals.Reason.TheVariants.{MeterOutsideGroup, RowTooShort}
use Rattle.proposals.specs.declared.refusals.Layer.TheVariants as layer
use Rattle.matching.specs.Matching.{total, altered}
use Rattle.matching.specs.Canonical.{partner_in, listing}
use Rattle.matching.specs.Meanings.{Meaning, kept_of, put_refusal, take_refusal, Put, Take}

pub data Call : Type 0 where
  propose : Proposal → Call
  withdraw : Pair → Call
  partner : ℕ → Call
  saved : Call
  list : ℕ → Call  -- into a row of so many numbers

pub data Answer : Type 0 where
  counts : ℕ → ℕ → Answer  -- how many kept pairs were altered; how many chosen ones came or went
  partnered : Option (ℕ × ℕ) → Answer  -- the other meter and the saving, or none
  sum : ℕ → Answer
  listed : ℕ → List ℕ → Answer  -- how many pairs; the numbers written
  refused : Refusal → Answer

-- the answer is no refusal
abbrev pub accepted : Answer → Bool
accepted (counts k c) = true
accepted (partnered o) = true
accepted (sum s) = true
accepted (listed k ns) = true
accepted (refused e) = false

-- found by the board itself
abbrev pub found : Reason → Refusal
found reason = record { reason = reason; layer = layer.Board }

-- why a call is refused, if it is: proposals and withdrawals by the keeper, the others by the board
abbrev pub refusal : Meaning → Call → Option Refusal
refusal m (propose p) = put_refusal m p
refusal m (withdraw pair) = take_refusal m pair
refusal m (partner v) = cond (nat_le m.size v) (Some (found MeterOutsideGroup)) None
refusal m saved = None
refusal m (list w) = cond (nat_lt w (3 * length (kept_of m))) (Some (found RowTooShort)) None

-- what came of an accepted proposal or withdrawal
abbrev pub counted : Meaning → Meaning → Answer
counted m m' = counts (altered (kept_of m) (kept_of m')) (altered m.chosen m'.chosen)

-- one call: the meaning before, the call, its answer, the meaning after
pub data Step : Meaning → Call → Answer → Meaning → Type 0 where
  refuses : {m : Meaning} {call : Call} {e : Refusal} → refusal m call ≡ Some e → Step m call (refused e) m
  proposes : {m m' : Meaning} {p : Proposal} → refusal m (propose p) ≡ None → Put m p m' → Step m (propose p) (counted m m') m'
  withdraws : {m m' : Meaning} {pair : Pair} → refusal m (withdraw pair) ≡ None → Take m pair m' → Step m (withdraw pair) (counted m m') m'
  partners : {m : Meaning} {v : ℕ} → refusal m (partner v) ≡ None → Step m (partner v) (partnered (partner_in (kept_of m) v)) m
  sums : {m : Meaning} → Step m saved (sum (total (kept_of m))) m
  lists : {m : Meaning} {w : ℕ} → refusal m (list w) ≡ None → Step m (list w) (listed (length (kept_of m)) (listing (kept_of m))) m

-- the call has this answer and no other, and leaves the meaning as it is
pub record Answers (m : Meaning) (call : Call) (answer : Answer) : Type 0 where
  pub so : Step m call answer m
  pub only : (other : Answer) (m' : Meaning) → Step m call other m' → (other ≡ answer) × (m' ≡ m)

-- a call with its answer
pub record Event : Type 0 where
  pub call : Call
  pub answer : Answer

-- a run: the meaning at its start, its calls with their answers, the meaning at its end
pub data Run : Meaning → List Event → Meaning → Type 0 where
  none : {m : Meaning} → Run m [] m
  more : {m t u : Meaning} {e : Event} {es : List Event} → Step m e.call e.answer t → Run t es u → Run m (e ∷ es) u
