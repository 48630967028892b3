-- The calls and answers of the code, as those of the law over runs.
use Rattle.std.specs.Prelude.{ℕ, ◌*◌, List, [], ◌∷◌, take, Ok, Err, Option, Result}
use Rattle.proposals.specs.declared.refusals.Refusal.{Refusal}
use Rattle.runs.specs.Runs as runs
use Rattle.runs.specs.Runs.Call.{propose, withdraw, partner, saved, list}
use Rattle.runs.specs.Runs.Answer.{counts, partnered, sum, listed, refused}
use Rattle.board.specs.declared.replaying.Call.{Call}
use Rattle.board.specs.declared.replaying.Call.TheVariants as call
use Rattle.board.specs.declared.replaying.Answer.{Answer}
use Rattle.board.specs.declared.replaying.Answer.TheVariants as answer

abbrev pub call_of : Call → runs.Call
call_of (call.Propose p) = propose p
call_of (call.Withdraw pair) = withdraw pair
call_of (call.Partner v) = partner v
call_of call.Saved = saved
call_of (call.List w) = list w

-- of a list's row the numbers that were written
abbrev pub accepted_as : Answer → runs.Answer
accepted_as (answer.Counts a c) = counts a c
accepted_as (answer.Partner o) = partnered o
accepted_as (answer.Saved s) = sum s
accepted_as (answer.List k row) = listed k (take (3 * k) row)

abbrev pub answer_of : Result Answer Refusal → runs.Answer
answer_of (Ok a) = accepted_as a
answer_of (Err e) = refused e

-- the answers of the single calls: to a proposal or a withdrawal, to a question for a partner, and to a list with the row after it
abbrev pub counting : Result (ℕ × ℕ) Refusal → runs.Answer
counting (Ok c) = counts c.0 c.1
counting (Err e) = refused e

abbrev pub partnering : Result (Option (ℕ × ℕ)) Refusal → runs.Answer
partnering (Ok o) = partnered o
partnering (Err e) = refused e

abbrev pub listing : Result ℕ Refusal → List ℕ → runs.Answer
listing (Ok k) row = listed k (take (3 * k) row)
listing (Err e) row = refused e

-- each call with its answer, as far as there are both
abbrev pub event_of : Call → Result Answer Refusal → runs.Event
event_of c a = record { call = call_of c; answer = answer_of a }

abbrev pub events_of : List Call → List (Result Answer Refusal) → List runs.Event
events_of [] answers = []
events_of (c ∷ calls) [] = []
events_of (c ∷ calls) (a ∷ answers) = event_of c a ∷ events_of calls answers
