-- The law over whole runs.
use Rattle.std.proofs.Common.{◌≡◌, ℕ, ◌*◌, ◌<◌, ◌≤◌, Bool, true, false, ltb, leb, List, [], ◌∷◌, ◌++◌, length, Some, None, filter, Option, refl, ap, ◌∙◌, subst, inl, inr, arith}
use Rattle.std.proofs.lemmas.Bool.{le-ltb, lt-leb, cond-false}
use Rattle.proposals.specs.declared.proposals.Proposal.{Proposal}
use Rattle.proposals.specs.declared.refusals.Reason.TheVariants.{MeterOutsideGroup, RowTooShort}
use Rattle.matching.specs.Lists.{◌∈◌}
use Rattle.matching.specs.Matching.{has, Settled}
use Rattle.matching.specs.Canonical.{Ascending}
use Rattle.matching.specs.Meanings.{Meaning, ratio, kept_of, Lawful}
use Rattle.matching.proofs.Lists.{kept_by_in}
use Rattle.matching.proofs.Pairs.{has_cases}
use Rattle.matching.proofs.Kept.{combining}
use Rattle.matching.proofs.Order.{one_answer, kept_ascends, picked_ascends}
use Rattle.matching.proofs.Share.{share_of_two}
use Rattle.runs.specs.Runs.{Event, Step, Run, Answers, found, refusal}
use Rattle.runs.specs.Runs.Call.{partner, saved, list}
use Rattle.runs.specs.Runs.Answer.{partnered}
use Rattle.runs.specs.Runs.Run.{none, more}
use Rattle.runs.specs.Law.{open_since, AllLimited, LawAt, Law, LawOfCalls, LawOfRuns}
use Rattle.runs.proofs.Meters.{partner_low, partner_high, partner_none, few_pairs, total_bound, rising}
use Rattle.runs.proofs.Steps.{answers, led, between}

-- at a lawful moment
module _ (m : Meaning) (h : Lawful m) where
  settled : Settled ratio m.chosen (kept_of m)
  settled = combining ratio m.chosen h.maximal.choice

  are_open : (p : Proposal) → p ∈ kept_of m → p ∈ m.opened
  are_open p i = h.maximal.among p (settled.chosen p i)

  inside : (p : Proposal) (v : ℕ) → p ∈ kept_of m → has p v ≡ true → v < m.size
  inside p v i k =
      elim (has_cases p v k) [
        | inl e ↦ omega (arith, h.inside p (are_open p i), p.apart)
        | inr e ↦ omega (arith, h.inside p (are_open p i))
      ]

  fits : 3 * length (kept_of m) ≤ 384
  fits = omega (arith, h.few, few_pairs (kept_of m) m.size settled.pairing inside)

  in_group : (v : ℕ) → v < m.size → refusal m (partner v) ≡ None
  in_group v lt = cond-false (leb m.size v) (Some (found MeterOutsideGroup)) None (lt-leb m.size v lt)

  low : (p : Proposal) → p ∈ kept_of m → Answers m (partner p.low) (partnered (Some (p.high, p.saving)))
  low p i =
      let lt : p.low < m.size = omega (arith, h.inside p (are_open p i), p.apart) in
      subst (λ (o : Option (ℕ × ℕ)). Answers m (partner p.low) (partnered o)) (partner_low (kept_of m) p settled.pairing i)
      (answers m (partner p.low) refl (in_group p.low lt))

  high : (p : Proposal) → p ∈ kept_of m → Answers m (partner p.high) (partnered (Some (p.low, p.saving)))
  high p i =
      subst (λ (o : Option (ℕ × ℕ)). Answers m (partner p.high) (partnered o)) (partner_high (kept_of m) p settled.pairing i)
      (answers m (partner p.high) refl (in_group p.high (h.inside p (are_open p i))))

  alone : (v : ℕ) → v < m.size → ((p : Proposal) → p ∈ kept_of m → has p v ≡ false) → Answers m (partner v) (partnered None)
  alone v lt k =
      subst (λ (o : Option (ℕ × ℕ)). Answers m (partner v) (partnered o)) (partner_none (kept_of m) v k)
      (answers m (partner v) refl (in_group v lt))

  holds : (m₀ : Meaning) (events : List Event) → m.size ≡ m₀.size → m.capacity ≡ m₀.capacity → m.opened ≡ open_since m₀.opened events →
      AllLimited m₀.opened events → LawAt m₀ events m
  holds m₀ events s c o l =
      record {
        lawful = h;
        size = s;
        capacity = c;
        opened = o;
        are_open = are_open;
        pairing = settled.pairing;
        settled = settled;
        lists = answers m (list 384) refl
            (cond-false (ltb 384 (3 * length (kept_of m))) (Some (found RowTooShort)) None (le-ltb 384 (3 * length (kept_of m)) fits));
        fits = fits;
        rising = rising (kept_of m) (kept_ascends ratio m.chosen h.in_order) settled.pairing;
        low = low;
        high = high;
        alone = alone;
        sums = answers m saved refl refl;
        bound = omega (arith, fits, total_bound (kept_of m));
        share = λ R rivals pr. share_of_two m.opened m.chosen R h.maximal rivals pr;
        limited = l;
      }

record Came (m₀ : Meaning) (events : List Event) (m : Meaning) : Type 0 where
  lawful : Lawful m
  size : m.size ≡ m₀.size
  capacity : m.capacity ≡ m₀.capacity
  opened : m.opened ≡ open_since m₀.opened events
  limited : AllLimited m₀.opened events

came : (m₀ : Meaning) (events : List Event) (m : Meaning) → Lawful m₀ → Run m₀ events m → Came m₀ events m
came m₀ events m h none = record { lawful = h; size = refl; capacity = refl; opened = refl; limited = tt }
came m₀ events m h (more {t = t} {e = e} {es = es} s r) =
    let a = led m₀ e.call e.answer t h s in
    let b = came t es m a.lawful r in
    record {
      lawful = b.lawful;
      size = b.size ∙ a.size;
      capacity = b.capacity ∙ a.capacity;
      opened = b.opened ∙ ap (λ (o : List Proposal). open_since o es) a.opened;
      limited = (a.limited, subst (λ (o : List Proposal). AllLimited o es) a.opened b.limited);
    }

pub law : Law
law m₀ m events h r = let c = came m₀ events m h r in holds m c.lawful m₀ events c.size c.capacity c.opened c.limited

-- a run, cut in two
split : (earlier later : List Event) (m₀ m : Meaning) → Run m₀ (earlier ++ later) m → (t : Meaning) × Run m₀ earlier t × Run t later m
split [] later m₀ m r = (m₀, none, r)
split (e ∷ es) later m₀ m (more {t = t} s r) = let w = split es later t m r in (w.0, more s w.1, w.2)

-- one more step at the end of a run
pub run_on : (m₀ : Meaning) (events : List Event) (m : Meaning) (e : Event) (t : Meaning) → Run m₀ events m → Step m e.call e.answer t →
    Run m₀ (events ++ e ∷ []) t
run_on m₀ events m e t none s = more s none
run_on m₀ events m e t (more {t = u} {es = es} a r) s = more a (run_on u es m e t r s)

first : (e : Event) (later : List Event) (s m : Meaning) → Run s (e ∷ later) m → (t : Meaning) × Step s e.call e.answer t × Run t later m
first e later s m (more {t = t} a r) = (t, a, r)

pub law_of_calls : LawOfCalls
law_of_calls m₀ m earlier later e h r =
    let w = split earlier (e ∷ later) m₀ m r in
    let v = first e later w.0 m w.2 in
    record {
      before = w.0;
      after = v.0;
      law_before = law m₀ w.0 earlier h w.1;
      step = v.1;
      between = between w.0 e.call e.answer v.0 v.1;
      law_after = law m₀ v.0 (earlier ++ e ∷ []) h (run_on m₀ earlier w.0 e v.0 w.1 v.1);
      goes_on = v.2;
    }

pub law_of_runs : LawOfRuns
law_of_runs m₀ m events h r =
    record {
      run = r;
      opening = law m₀ m₀ [] h none;
      around = λ earlier later e is. law_of_calls m₀ m earlier later e h (subst (λ (es : List Event). Run m₀ es m) is r);
      ending = law m₀ m events h r;
    }

-- for a board's proof: what was settled in whatever way, and stands in order, is what is kept
pub kept_is : (m : Meaning) (M : List Proposal) → Lawful m → Settled ratio m.chosen M → Ascending M → M ≡ kept_of m
kept_is m M h st up = (one_answer ratio m.chosen M h.maximal.choice st).list h.in_order up

-- and for a keeper's: what a test picks of the open ones is open, and in order
pub picked : (t : Proposal → Bool) (opened : List Proposal) → Ascending opened →
    ((p : Proposal) → p ∈ filter t opened → p ∈ opened) × Ascending (filter t opened)
picked t opened up = (λ p i. (kept_by_in t opened p i).0, picked_ascends t opened up)
