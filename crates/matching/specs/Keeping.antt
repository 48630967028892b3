-- What is proved of keepers' meanings and of the two rules.
use Rattle.std.specs.Prelude.{◌≡◌, ℕ, ◌<◌, ◌≤◌, true, false, ◌⊎◌, List, Some, None, filter, nat_eq}
use Rattle.proposals.specs.declared.proposals.Proposal.{Proposal}
use Rattle.proposals.specs.declared.pairs.Pair.{Pair}
use Rattle.matching.specs.Lists.{◌∈◌, first_of}
use Rattle.matching.specs.Matching.{level, levels, has, other, shares}
use Rattle.matching.specs.Canonical.{Ascending, joins, is_for}
use Rattle.matching.specs.Meanings.{Meaning, ratio, Lawful, bare, saving_of, mate_of, put_refusal, take_refusal, Put, Take}
use Rattle.matching.specs.Rules.{patient_put, patient_take, offers, nearest, ordered, ordered_put, ordered_take, ByOrder}

-- a keeper with nothing open is lawful
abbrev pub BareLawful : Type 0
BareLawful = (size capacity : ℕ) → 2 ≤ size → size ≤ 256 → capacity ≤ 4096 → Lawful (bare size capacity)

-- a rule does what every keeper's put and take do, wherever they are not refused
pub record Keeps (put : Meaning → Proposal → Meaning) (take : Meaning → Pair → Meaning) (m : Meaning) : Type 0 where
  pub puts : (p : Proposal) → put_refusal m p ≡ None → Put m p (put m p)
  pub takes : (pair : Pair) → take_refusal m pair ≡ None → Take m pair (take m pair)

abbrev pub PatientKeeps : Type 0
PatientKeeps = (m : Meaning) → Lawful m → Keeps patient_put patient_take m

abbrev pub OrderedKeeps : Type 0
OrderedKeeps = (m : Meaning) → Lawful m → ByOrder m → Keeps ordered_put ordered_take m

-- the patient keeper gives up a chosen proposal only when that one is taken
pub record Patience (m : Meaning) : Type 0 where
  pub on_put : (p q : Proposal) → q ∈ m.chosen → q ∈ (patient_put m p).chosen
  pub on_take : (pair : Pair) (q : Proposal) → q ∈ m.chosen → joins pair.low pair.high q ≡ false → q ∈ (patient_take m pair).chosen

abbrev pub PatientIsPatient : Type 0
PatientIsPatient = (m : Meaning) → Patience m

-- in canonical order, the first that offers to join v joins it to the smallest meter
abbrev pub FirstIsNearest : Type 0
FirstIsNearest = (r l v : ℕ) (C opened : List Proposal) → Ascending opened →
    nearest v (filter (offers r C l v) opened) ≡ first_of (offers r C l v) opened

-- by lower meter, then by higher meter
abbrev pub Earlier : Proposal → Proposal → Type 0
Earlier q p = (q.low < p.low) ⊎ ((q.low ≡ p.low) × (q.high < p.high))

-- the ordered keeper passes over an open proposal only for an earlier chosen one of its level that shares a meter with it
abbrev pub FirstCome : Type 0
FirstCome = (r : ℕ) (opened : List Proposal) → Ascending opened → (p : Proposal) → p ∈ opened →
    (p ∈ ordered r opened) ⊎
    ((q : Proposal) × (q ∈ ordered r opened) × (level r q ≡ level r p) × (shares p q ≡ true) × Earlier q p)

-- the proposals of level l
abbrev pub pairs_at_level : ℕ → ℕ → List Proposal → List Proposal
pairs_at_level r l ps = filter (λ p. nat_eq (level r p) l) ps

-- one way through all open proposals chooses at each level what a way through those of that level alone does
abbrev pub LevelByLevel : Type 0
LevelByLevel = (r l : ℕ) (opened : List Proposal) → pairs_at_level r l (ordered r opened) ≡ ordered r (pairs_at_level r l opened)

-- what the questions answer of a lawful meaning
pub record Tells (m : Meaning) : Type 0 where
  -- the saving of each open pair, and none for any other
  pub saving : (p : Proposal) → p ∈ m.opened → saving_of m p.low p.high ≡ Some p.saving
  pub no_saving : (a b : ℕ) → is_for a b m.opened ≡ false → saving_of m a b ≡ None
  -- the two meters of a chosen pair are mates at its level, and no others are
  pub low : (p : Proposal) → p ∈ m.chosen → mate_of m p.low (level ratio p) ≡ Some p.high
  pub high : (p : Proposal) → p ∈ m.chosen → mate_of m p.high (level ratio p) ≡ Some p.low
  pub mates : (v l w : ℕ) → mate_of m v l ≡ Some w →
      (p : Proposal) × (p ∈ m.chosen) × (level ratio p ≡ l) × (has p v ≡ true) × (other p v ≡ w)
  -- none outside the group, and none outside the ladder
  pub outside : (v l : ℕ) → m.size ≤ v → mate_of m v l ≡ None
  pub beyond : (v l : ℕ) → levels ≤ l → mate_of m v l ≡ None

abbrev pub Telling : Type 0
Telling = (m : Meaning) → Lawful m → Tells m
