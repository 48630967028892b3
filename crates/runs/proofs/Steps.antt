-- What one step answers and where it leads.
use Rattle.std.proofs.Common.{◌≡◌, ◌+◌, ◌*◌, ◌≤◌, true, false, List, length, Some, None, Option, refl, subst}
use Rattle.std.proofs.lemmas.Bool.{both_ways}
use Rattle.proposals.specs.declared.proposals.Proposal.{Proposal}
use Rattle.proposals.specs.declared.refusals.Refusal.{Refusal}
use Rattle.matching.specs.Matching.{level, total, altered}
use Rattle.matching.specs.Canonical.{partner_in, listing}
use Rattle.matching.specs.Meanings.{Meaning, ratio, kept_of, Lawful}
use Rattle.matching.specs.Rules.{patient_put, patient_take}
use Rattle.matching.proofs.Lists.{none_some}
use Rattle.matching.proofs.Order.{one_open}
use Rattle.matching.proofs.Alter.{alteration}
use Rattle.matching.proofs.Patient.{patient_keeps}
use Rattle.runs.specs.Runs.{Call, Answer, Step, Answers, accepted, refusal, counted}
use Rattle.runs.specs.Runs.Call.{propose, withdraw, partner, saved, list}
use Rattle.runs.specs.Runs.Answer.{partnered, sum, listed, refused}
use Rattle.runs.specs.Runs.Step.{refuses, proposes, withdraws, partners, sums, lists}
use Rattle.runs.specs.Law.{open_after, Limited, Between}
use Rattle.runs.specs.Answering.{reads, Reading, Refusing, Accepted, Accepting}

-- what a call that reads answers
abbrev read_of : Meaning → Call → Answer
read_of m (propose p) = sum 0
read_of m (withdraw pair) = sum 0
read_of m (partner v) = partnered (partner_in (kept_of m) v)
read_of m saved = sum (total (kept_of m))
read_of m (list w) = listed (length (kept_of m)) (listing (kept_of m))

read_so : (m : Meaning) (call : Call) → reads call ≡ true → refusal m call ≡ None → Step m call (read_of m call) m
read_so m (propose p) r h = absurd (both_ways false refl r)
read_so m (withdraw pair) r h = absurd (both_ways false refl r)
read_so m (partner v) r h = partners h
read_so m saved r h = sums
read_so m (list w) r h = lists h

read_only : (m : Meaning) (call : Call) (other : Answer) (m' : Meaning) → reads call ≡ true → refusal m call ≡ None → Step m call other m' →
    (other ≡ read_of m call) × (m' ≡ m)
read_only m call other m' r h (refuses e) = absurd (none_some h e)
read_only m call other m' r h (proposes e b) = absurd (both_ways false refl r)
read_only m call other m' r h (withdraws e b) = absurd (both_ways false refl r)
read_only m call other m' r h (partners e) = (refl, refl)
read_only m call other m' r h sums = (refl, refl)
read_only m call other m' r h (lists e) = (refl, refl)

pub answers : (m : Meaning) (call : Call) → reads call ≡ true → refusal m call ≡ None → Answers m call (read_of m call)
answers m call r h = record { so = read_so m call r h; only = λ other m' s. read_only m call other m' r h s }

refused_only : (m : Meaning) (call : Call) (e : Refusal) (other : Answer) (m' : Meaning) → refusal m call ≡ Some e → Step m call other m' →
    (other ≡ refused e) × (m' ≡ m)
refused_only m call e other m' h (refuses k) = (cc, refl)
refused_only m call e other m' h (proposes k b) = absurd (none_some k h)
refused_only m call e other m' h (withdraws k b) = absurd (none_some k h)
refused_only m call e other m' h (partners k) = absurd (none_some k h)
refused_only m call e other m' h sums = absurd (none_some refl h)
refused_only m call e other m' h (lists k) = absurd (none_some k h)

pub refusing : Refusing
refusing m call e h = record { so = refuses h; only = λ other m' s. refused_only m call e other m' h s }

pub reading : Reading
reading m call r = go (refusal m call) refl
  where
    go : (o : Option Refusal) → refusal m call ≡ o → (answer : Answer) × Answers m call answer
    go None e = (read_of m call, answers m call r e)
    go (Some k) e = (refused k, refusing m call k e)

-- the patient rule shows that what is not refused can be done
accepts : (m : Meaning) (call : Call) → Lawful m → refusal m call ≡ None → Accepted m call
accepts m (propose p) h free = (counted m (patient_put m p), patient_put m p, proposes free ((patient_keeps m h).puts p free), refl)
accepts m (withdraw pair) h free = (counted m (patient_take m pair), patient_take m pair, withdraws free ((patient_keeps m h).takes pair free), refl)
accepts m (partner v) h free = (_, m, partners free, refl)
accepts m saved h free = (_, m, sums, refl)
accepts m (list w) h free = (_, m, lists free, refl)

not_refused : (m : Meaning) (call : Call) (answer : Answer) (m' : Meaning) → Step m call answer m' → accepted answer ≡ true → refusal m call ≡ None
not_refused m call answer m' (refuses e) h = absurd (both_ways false refl h)
not_refused m call answer m' (proposes e b) h = e
not_refused m call answer m' (withdraws e b) h = e
not_refused m call answer m' (partners e) h = e
not_refused m call answer m' sums h = refl
not_refused m call answer m' (lists e) h = e

pub accepting : Accepting
accepting m call h = (accepts m call h, λ (answer, m', t, e). not_refused m call answer m' t e)

-- where a step leads
pub record Led (m : Meaning) (call : Call) (answer : Answer) (m' : Meaning) : Type 0 where
  pub lawful : Lawful m'
  pub size : m'.size ≡ m.size
  pub capacity : m'.capacity ≡ m.capacity
  pub opened : m'.opened ≡ open_after m.opened call answer
  pub limited : Limited m.opened call answer

refused_opened : (opened : List Proposal) (call : Call) (e : Refusal) → opened ≡ open_after opened call (refused e)
refused_opened opened (propose p) e = refl
refused_opened opened (withdraw pair) e = refl
refused_opened opened (partner v) e = refl
refused_opened opened saved e = refl
refused_opened opened (list w) e = refl

refused_limited : (opened : List Proposal) (call : Call) (e : Refusal) → Limited opened call (refused e)
refused_limited opened (propose p) e = tt
refused_limited opened (withdraw pair) e = λ q m k. tt
refused_limited opened (partner v) e = tt
refused_limited opened saved e = tt
refused_limited opened (list w) e = tt

pub led : (m : Meaning) (call : Call) (answer : Answer) (m' : Meaning) → Lawful m → Step m call answer m' → Led m call answer m'
led m call answer m' h (refuses {e = k} e) =
    record { lawful = h; size = refl; capacity = refl; opened = refused_opened m.opened call k; limited = refused_limited m.opened call k }
led m call answer m' h (proposes {p = p} e b) =
    record {
      lawful = b.lawful;
      size = b.size;
      capacity = b.capacity;
      opened = b.opens;
      limited = alteration ratio (level ratio p) m.chosen m'.chosen h.maximal.choice b.lawful.maximal.choice b.elsewhere;
    }
led m call answer m' h (withdraws {pair = pair} e (q, i, k, b)) =
    record {
      lawful = b.lawful;
      size = b.size;
      capacity = b.capacity;
      opened = b.opens;
      limited = λ r j l.
          subst (λ (s : Proposal). altered (kept_of m) (kept_of m') ≤ altered m.chosen m'.chosen * (2 * level ratio s + 1))
          (one_open m.opened q r pair.low pair.high h.ascending i j k l)
          (alteration ratio (level ratio q) m.chosen m'.chosen h.maximal.choice b.lawful.maximal.choice b.elsewhere);
    }
led m call answer m' h (partners e) = record { lawful = h; size = refl; capacity = refl; opened = refl; limited = tt }
led m call answer m' h sums = record { lawful = h; size = refl; capacity = refl; opened = refl; limited = tt }
led m call answer m' h (lists e) = record { lawful = h; size = refl; capacity = refl; opened = refl; limited = tt }

pub between : (m : Meaning) (call : Call) (answer : Answer) (m' : Meaning) → Step m call answer m' → Between m m' answer
between m call answer m' (refuses e) = refl
between m call answer m' (proposes e b) = (refl, refl)
between m call answer m' (withdraws e b) = (refl, refl)
between m call answer m' (partners e) = refl
between m call answer m' sums = refl
between m call answer m' (lists e) = refl
