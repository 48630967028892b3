-- The law over whole runs.
use Rattle.std.specs.Prelude.{◌≡◌, ℕ, ◌+◌, ◌*◌, ◌<◌, ◌≤◌, true, false, cond, List, [], ◌∷◌, ◌++◌, length, Some, None}
use Rattle.proposals.specs.declared.proposals.Proposal.{Proposal}
use Rattle.matching.specs.Lists.{◌∈◌, Pairwise}
use Rattle.matching.specs.Matching.{level, has, Pairing, Settled, total, altered}
use Rattle.matching.specs.Canonical.{insert, joins, without, listing}
use Rattle.matching.specs.Meanings.{Meaning, ratio, kept_of, Lawful}
use Rattle.runs.specs.Runs.{Call, Answer, Event, Step, Run, Answers, accepted}
use Rattle.runs.specs.Runs.Call.{propose, withdraw, partner, saved, list}
use Rattle.runs.specs.Runs.Answer.{counts, partnered, sum, listed, refused}

-- the open proposals after a call: an accepted proposal is put in, the pair of an accepted withdrawal is taken out
abbrev pub open_after : List Proposal → Call → Answer → List Proposal
open_after opened (propose p) answer = cond (accepted answer) (insert p opened) opened
open_after opened (withdraw pair) answer = cond (accepted answer) (without pair.low pair.high opened) opened
open_after opened (partner v) answer = opened
open_after opened saved answer = opened
open_after opened (list w) answer = opened

-- the open proposals after the events, from those that were open before them
abbrev pub open_since : List Proposal → List Event → List Proposal
open_since opened [] = opened
open_since opened (e ∷ es) = open_since (open_after opened e.call e.answer) es

-- the alteration limit at level l: each chosen pair that came or went altered at most 2 l + 1 kept pairs
abbrev pub Within : ℕ → Answer → Type 0
Within l (counts k c) = k ≤ c * (2 * l + 1)
Within l (partnered o) = Unit {0}
Within l (sum s) = Unit {0}
Within l (listed k ns) = Unit {0}
Within l (refused e) = Unit {0}

-- the limit at the level of the proposal that was opened or closed
abbrev pub Limited : List Proposal → Call → Answer → Type 0
Limited opened (propose p) answer = Within (level ratio p) answer
Limited opened (withdraw pair) answer = (q : Proposal) → q ∈ opened → joins pair.low pair.high q ≡ true → Within (level ratio q) answer
Limited opened (partner v) answer = Unit {0}
Limited opened saved answer = Unit {0}
Limited opened (list w) answer = Unit {0}

-- the limit holds of each of the events
abbrev pub AllLimited : List Proposal → List Event → Type 0
AllLimited opened [] = Unit {0}
AllLimited opened (e ∷ es) = Limited opened e.call e.answer × AllLimited (open_after opened e.call e.answer) es

-- the law at a moment: m₀ was meant at the start, `events` have been since, and m is meant now
pub record LawAt (m₀ : Meaning) (events : List Event) (m : Meaning) : Type 0 where
  pub lawful : Lawful m
  pub size : m.size ≡ m₀.size
  pub capacity : m.capacity ≡ m₀.capacity
  pub opened : m.opened ≡ open_since m₀.opened events
  -- the kept pairs are open proposals, share no meter, and are what static combining keeps
  pub are_open : (p : Proposal) → p ∈ kept_of m → p ∈ m.opened
  pub pairing : Pairing (kept_of m)
  pub settled : Settled ratio m.chosen (kept_of m)
  -- `list` writes exactly them, by rising lower meter, into a row of 384 numbers
  pub lists : Answers m (list 384) (listed (length (kept_of m)) (listing (kept_of m)))
  pub fits : 3 * length (kept_of m) ≤ 384
  pub rising : Pairwise (λ p q. p.low < q.low) (kept_of m)
  -- `partner` answers the other meter and the saving for both meters of a kept pair, and none for every other meter of the group
  pub low : (p : Proposal) → p ∈ kept_of m → Answers m (partner p.low) (partnered (Some (p.high, p.saving)))
  pub high : (p : Proposal) → p ∈ kept_of m → Answers m (partner p.high) (partnered (Some (p.low, p.saving)))
  pub alone : (v : ℕ) → v < m.size → ((p : Proposal) → p ∈ kept_of m → has p v ≡ false) → Answers m (partner v) (partnered None)
  -- `saved` answers the sum of their savings
  pub sums : Answers m saved (sum (total (kept_of m)))
  pub bound : total (kept_of m) ≤ 134217600
  -- no pairing of open proposals saves more than eight times as much
  pub share : (R : List Proposal) → ((p : Proposal) → p ∈ R → p ∈ m.opened) → Pairing R → total R ≤ 8 * total (kept_of m)
  -- each accepted call so far, the last one too, kept to the alteration limit
  pub limited : AllLimited m₀.opened events

-- what an answer tells of the moments before and after: the two counts, of pairs in exactly one of the two kept sets
-- and in exactly one of the two choices; any other answer leaves all as it was
abbrev pub Between : Meaning → Meaning → Answer → Type 0
Between s t (counts k c) = (k ≡ altered (kept_of s) (kept_of t)) × (c ≡ altered s.chosen t.chosen)
Between s t (partnered o) = t ≡ s
Between s t (sum n) = t ≡ s
Between s t (listed k ns) = t ≡ s
Between s t (refused e) = t ≡ s

-- the law holds at the end of a run
abbrev pub Law : Type 0
Law = (m₀ m : Meaning) (events : List Event) → Lawful m₀ → Run m₀ events m → LawAt m₀ events m

-- and just before and just after each of its calls
pub record CallIn (m₀ : Meaning) (earlier : List Event) (e : Event) (later : List Event) (m : Meaning) : Type 0 where
  pub before : Meaning
  pub after : Meaning
  pub law_before : LawAt m₀ earlier before
  pub step : Step before e.call e.answer after
  pub between : Between before after e.answer
  pub law_after : LawAt m₀ (earlier ++ e ∷ []) after
  pub goes_on : Run after later m

abbrev pub LawOfCalls : Type 0
LawOfCalls = (m₀ m : Meaning) (earlier later : List Event) (e : Event) → Lawful m₀ → Run m₀ (earlier ++ e ∷ later) m → CallIn m₀ earlier e later m

-- the law along a run, whole: the run itself, the law after opening, just before and just after each of its calls, and at its end
pub record LawAlong (m₀ : Meaning) (events : List Event) (m : Meaning) : Type 0 where
  pub run : Run m₀ events m
  pub opening : LawAt m₀ [] m₀
  pub around : (earlier later : List Event) (e : Event) → events ≡ earlier ++ e ∷ later → CallIn m₀ earlier e later m
  pub ending : LawAt m₀ events m

abbrev pub LawOfRuns : Type 0
LawOfRuns = (m₀ m : Meaning) (events : List Event) → Lawful m₀ → Run m₀ events m → LawAlong m₀ events m
