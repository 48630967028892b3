-- What came of an order, from what its maker and the recipient answered.
use Rattle.std.proofs.Common.{◌≡◌, ℕ, Some, Ok, Err, Result, sym, refl, ap, ◌∙◌, subst, inr}
use Rattle.proposals.specs.declared.pairs.Pair.{Pair}
use Rattle.proposals.specs.declared.proposals.Proposal.{Proposal}
use Rattle.proposals.specs.declared.refusals.Refusal.{Refusal}
use Rattle.proposals.specs.Making as making
use Rattle.matching.specs.Meanings.{Meaning}
use Rattle.runs.specs.Runs.Call.{propose, withdraw}
use Rattle.runs.specs.Runs.{counted}
use Rattle.runs.specs.Runs.Step.{refuses, proposes, withdraws}
use Rattle.keepers.specs.Calls.{Puts, Takes}
use Rattle.update_text.specs.Orders.{Asks, Whole}
use Rattle.update_text.specs.declared.columns.Columns.{Columns}
use Rattle.update_text.specs.declared.orders.Entry.{Entry}
use Rattle.update_text.specs.declared.orders.Flaw.{Flaw}
use Rattle.update_text.specs.declared.orders.Order.{Order}
use Rattle.update_text.specs.declared.orders.Order.TheVariants.{Add, Off}
use Rattle.update_text.specs.declared.parts.Part.{Part}
use Rattle.feeding.specs.Obeying.{Obeys, flaw_of, unmeant}
use Rattle.feeding.specs.Texts.{ObeyedLine}
use Rattle.feeding.specs.Obeying.Obeys.{obeyed, senseless, turned_down}

-- the same under another name of the order and of the answer
pub named : (m m' : Meaning) {o o' : Order} {r r' : Result (Unit {0}) Refusal} → o ≡ o' → r ≡ r' → Obeys m o' r' m' → Obeys m o r m'
named m m' p q h = subst (λ (x : Order × Result (Unit {0}) Refusal). Obeys m x.0 x.1 m') (λ i. (sym p i, sym q i)) h

-- an order for which there is no proposal or no pair
pub not_meant : (m : Meaning) (o : Order) (r : Result (Unit {0}) Refusal) (e : Refusal) → r ≡ Err e → unmeant o ≡ Some e → Obeys m o r m
not_meant m o r e is why = named m m refl is (senseless why)

-- a proposal that was given to the recipient
pub added : (m m' : Meaning) (o : Order) (a b saving : Entry) (p : Proposal) (r : Result (Unit {0}) Refusal) → o ≡ Add a b saving → making.Proposes p a.value b.value saving.value → Puts m p r m' → Obeys m o r m'
added m m' o a b saving p (Ok done) is means h = named m m' is refl (obeyed (propose p) (counted m m') means (proposes h.0 h.1) refl)
added m m' o a b saving p (Err e) is means h =
    named m m' is refl (subst (λ (x : Meaning). Obeys m (Add a b saving) (Err e) x) (sym h.1) (turned_down (propose p) means (refuses h.0)))

-- and a pair
pub taken_off : (m m' : Meaning) (o : Order) (a b : Entry) (pair : Pair) (r : Result (Unit {0}) Refusal) → o ≡ Off a b → making.Pairs pair a.value b.value → Takes m pair r m' → Obeys m o r m'
taken_off m m' o a b pair (Ok done) is means h = named m m' is refl (obeyed (withdraw pair) (counted m m') means (withdraws h.0 h.1) refl)
taken_off m m' o a b pair (Err e) is means h =
    named m m' is refl (subst (λ (x : Meaning). Obeys m (Off a b) (Err e) x) (sym h.1) (turned_down (withdraw pair) means (refuses h.0)))

-- what is refused changes nothing
refused_same : (m m' : Meaning) (o : Order) (e : Refusal) → Obeys m o (Err e) m' → m' ≡ m
refused_same m m' o e (senseless h) = refl
refused_same m m' o e (turned_down call means step) = refl

-- an answer with what is wrong in place of a refusal
abbrev pub flawed_by : (Refusal → Flaw) → Result (Unit {0}) Refusal → Result (Unit {0}) Flaw
flawed_by f (Ok x) = Ok x
flawed_by f (Err e) = Err (f e)

-- a line whose order was obeyed is done, and one whose order was refused is a stop
pub line_obeyed : (columns : Columns) (line : Part) (m m' : Meaning) (o : Order) (r : Result (Unit {0}) Refusal) → Whole line × Asks columns line o → Obeys m o r m' →
    ObeyedLine columns line m (flawed_by (flaw_of m.size line.at o) r) m'
line_obeyed columns line m m' o (Ok done) read h = (read.0, (o, read.1, h))
line_obeyed columns line m m' o (Err e) read h =
    let same = refused_same m m' o e h in (
      inr record {
        whole = read.0;
        order = o;
        asks = read.1;
        refusal = e;
        refuses = subst (λ (x : Meaning). Obeys m o (Err e) x) same h;
        flaw = refl;
      },
      same,
    )

-- the same of an answer that is made of it by the number of meters that the recipient says
pub line_answered : (columns : Columns) (line : Part) (m m' : Meaning) (o : Order) (n : ℕ) (r : Result (Unit {0}) Refusal) (answer : Result (Unit {0}) Flaw) →
    answer ≡ flawed_by (flaw_of n line.at o) r → n ≡ m.size → Whole line × Asks columns line o → Obeys m o r m' → ObeyedLine columns line m answer m'
line_answered columns line m m' o n r answer is size read h =
    subst (λ (a : Result (Unit {0}) Flaw). ObeyedLine columns line m a m') (sym (is ∙ ap (λ k. flawed_by (flaw_of k line.at o) r) size))
    (line_obeyed columns line m m' o r read h)
