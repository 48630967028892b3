-- Which answer each call has, and that it always has one.
use Rattle.std.specs.Prelude.{◌≡◌, Bool, true, false, Some, None}
use Rattle.proposals.specs.declared.refusals.Refusal.{Refusal}
use Rattle.matching.specs.Meanings.{Meaning, Lawful}
use Rattle.runs.specs.Runs.{Call, Answer, Step, Answers, accepted, refusal}
use Rattle.runs.specs.Runs.Call.{propose, withdraw, partner, saved, list}
use Rattle.runs.specs.Runs.Answer.{refused}

-- the calls that read
abbrev pub reads : Call → Bool
reads (propose p) = false
reads (withdraw pair) = false
reads (partner v) = true
reads saved = true
reads (list w) = true

-- a call that reads has exactly one answer
abbrev pub Reading : Type 0
Reading = (m : Meaning) (call : Call) → reads call ≡ true → (answer : Answer) × Answers m call answer

-- a call that is to be refused is refused so and in no other way
abbrev pub Refusing : Type 0
Refusing = (m : Meaning) (call : Call) (e : Refusal) → refusal m call ≡ Some e → Answers m call (refused e)

-- a call is accepted: it has an answer that is no refusal
abbrev pub Accepted : Meaning → Call → Type 0
Accepted m call = (answer : Answer) × (m' : Meaning) × Step m call answer m' × (accepted answer ≡ true)

-- a call is accepted just if it is not to be refused
abbrev pub Accepting : Type 0
Accepting = (m : Meaning) (call : Call) → Lawful m → (refusal m call ≡ None → Accepted m call) × (Accepted m call → refusal m call ≡ None)
