-- What a line's order asks of a recipient, and what comes of it.
use Rattle.std.specs.Prelude.{◌≡◌, ℕ, true, cond, Some, Ok, Err, Option, Result, ◌==◌, nat_le}
use Rattle.proposals.specs.declared.refusals.Refusal.{Refusal}
use Rattle.proposals.specs.Making.{Pairs, Proposes, pair_refusal, proposal_refusal}
use Rattle.proposals.specs.Refusals.{number_of}
use Rattle.matching.specs.Meanings.{Meaning}
use Rattle.runs.specs.Runs.{Answer, Call, Step, accepted}
use Rattle.runs.specs.Runs.Answer.{refused}
use Rattle.runs.specs.Runs.Call.{propose, withdraw, partner, saved, list}
use Rattle.update_text.specs.declared.orders.Entry.{Entry}
use Rattle.update_text.specs.declared.orders.Flaw.{Flaw}
use Rattle.update_text.specs.declared.orders.Order.{Order}
use Rattle.update_text.specs.declared.orders.Order.TheVariants.{Add, Off}

-- the call that an order asks for
abbrev pub Means : Order → Call → Type 0
Means (Add a b saving) (propose p) = Proposes p a.value b.value saving.value
Means (Add a b saving) (withdraw pair) = ⊥
Means (Add a b saving) (partner v) = ⊥
Means (Add a b saving) saved = ⊥
Means (Add a b saving) (list w) = ⊥
Means (Off a b) (propose p) = ⊥
Means (Off a b) (withdraw pair) = Pairs pair a.value b.value
Means (Off a b) (partner v) = ⊥
Means (Off a b) saved = ⊥
Means (Off a b) (list w) = ⊥

-- why an order asks for no call, if it does not: there is no such proposal or pair
abbrev pub unmeant : Order → Option Refusal
unmeant (Add a b saving) = proposal_refusal a.value b.value saving.value
unmeant (Off a b) = pair_refusal a.value b.value

-- a recipient that means m obeys an order: its call is accepted; or there is no such call, or it is refused, and nothing changes
pub data Obeys (m : Meaning) (o : Order) : Result (Unit {0}) Refusal → Meaning → Type 0 where
  obeyed : {m' : Meaning} (call : Call) (answer : Answer) → Means o call → Step m call answer m' → accepted answer ≡ true → Obeys m o (Ok tt) m'
  senseless : {e : Refusal} → unmeant o ≡ Some e → Obeys m o (Err e) m
  turned_down : {e : Refusal} (call : Call) → Means o call → Step m call (refused e) m → Obeys m o (Err e) m

-- where the parts of an order begin; without a saving the line has none to be at fault
abbrev pub first_of : Order → Entry
first_of (Add a b saving) = a
first_of (Off a b) = a

abbrev pub second_of : Order → Entry
second_of (Add a b saving) = b
second_of (Off a b) = b

abbrev pub saving_at : ℕ → Order → ℕ
saving_at start (Add a b saving) = saving.at
saving_at start (Off a b) = start

-- the byte at fault, in a group of n meters and a line that begins at the byte `start`: for equal meters (2) that of the second,
-- for a saving out of range (3) that of the saving, for a meter outside the group (4) that of the first if it is outside, else of the second,
-- and for anything else the line's first byte
abbrev pub byte_of : ℕ → ℕ → Order → ℕ → ℕ
byte_of n start o number =
    cond (number == 2) (second_of o).at
    (cond (number == 3) (saving_at start o)
    (cond (number == 4) (cond (nat_le n (first_of o).value) (first_of o).at (second_of o).at) start))

abbrev pub flaw_of : ℕ → ℕ → Order → Refusal → Flaw
flaw_of n start o e = record { byte = byte_of n start o (number_of e.reason); refusal = e }
