-- What an accepted put or take changes, and that a board with a fresh copy serves.
use Rattle.std.proofs.Common.{◌≡◌, ℕ, not, eqb, List, None, Ok, unwrap_or, sym, ap, ◌∙◌, subst, inr}
use Rattle.std.proofs.lemmas.Bool.{eq-eqb, and_from}
use Rattle.proposals.specs.declared.proposals.Proposal.{Proposal}
use Rattle.proposals.specs.declared.pairs.Pair.{Pair}
use Rattle.proposals.specs.Levels.{level_of}
use Rattle.matching.specs.Lists.{◌∈◌}
use Rattle.matching.specs.Matching.{level}
use Rattle.matching.specs.Canonical.{Ascending, joins}
use Rattle.matching.specs.Meanings.{Meaning, Lawful, ratio, saving_of, put_refusal, take_refusal, Put, Take}
use Rattle.matching.proofs.Lists.{kept_by_in}
use Rattle.matching.proofs.Order.{joins_self, joins_true, one_open, in_insert}
use Rattle.matching.proofs.Telling.{telling}
use Rattle.settling.specs.declared.kept_pairs.KeptPairs.{KeptPairs}
use Rattle.settling.specs.Kept.{Copies}
use Rattle.settling.proofs.Bridge.{partner_is}
use Rattle.board.specs.Serving.{Serves}
use Rattle.board.specs.Calls.{Changes, Counted, Proposes, Withdraws}

-- a sound keeper and a copy of its choice make a board that serves
pub serves : (sound : Type 0) (m : Meaning) (k : KeptPairs) → sound → Lawful m → Copies k m.chosen → Serves sound m k
serves sound m k s h c = record { keeper = s; lawful = h; copies = c; keeps = partner_is k m.chosen c }

-- in one list in order the same meters make the same proposal
one_for_two : (ps : List Proposal) (p q : Proposal) → Ascending ps → p ∈ ps → q ∈ ps → p.low ≡ q.low → p.high ≡ q.high → p ≡ q
one_for_two ps p q up i j x y =
    one_open ps p q q.low q.high up i j
    (and_from (eqb p.low q.low) (eqb p.high q.high) (eq-eqb p.low q.low x) (eq-eqb p.high q.high y)) (joins_self q)

pub put_changes : (m m' : Meaning) (p : Proposal) → Lawful m → Put m p m' → Changes m (level ratio p) m'
put_changes m m' p h b =
    record {
      before = h;
      after = b.lawful;
      elsewhere = b.elsewhere;
      one = λ q r i j.
          one_for_two m'.opened q r b.lawful.ascending
          (subst (λ (ps : List Proposal). q ∈ ps) (sym b.opens) (in_insert p m.opened q (inr i))) j;
    }

pub take_changes : (m m' : Meaning) (pair : Pair) → Lawful m → (t : Take m pair m') → Changes m (level ratio t.0) m'
take_changes m m' pair h t =
    record {
      before = h;
      after = t.3.lawful;
      elsewhere = t.3.elsewhere;
      one = λ q r i j.
          one_for_two m.opened q r h.ascending i
          (kept_by_in (λ x. not (joins pair.low pair.high x)) m.opened r (subst (λ (ps : List Proposal). r ∈ ps) t.3.opens j)).0;
    }

-- the level of the saving that was asked for before the take
pub taken_level : (m m' : Meaning) (pair : Pair) → Lawful m → (t : Take m pair m') →
    level_of ratio (unwrap_or (saving_of m pair.low pair.high) 0) ≡ level ratio t.0
taken_level m m' pair h t =
    let q : Proposal = t.0 in
    let e = joins_true pair.low pair.high q t.2 in
    ap (λ o. level_of ratio (unwrap_or o 0)) (sym (λ i. saving_of m (e.0 i) (e.1 i)) ∙ (telling m h).saving q t.1)

-- an accepted proposal and an accepted withdrawal, with the two counts
pub proposed : (m m' : Meaning) (p : Proposal) (counts : ℕ × ℕ) → (put_refusal m p ≡ None) × Put m p m' → Counted m m' counts → Proposes m p (Ok counts) m'
proposed m m' p counts h n = (h.0, h.1, n)

pub withdrawn : (m m' : Meaning) (pair : Pair) (counts : ℕ × ℕ) → (take_refusal m pair ≡ None) × Take m pair m' → Counted m m' counts → Withdraws m pair (Ok counts) m'
withdrawn m m' pair counts h n = (h.0, h.1, n)
