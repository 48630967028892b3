-- The lines of a text, done one after another.
use Rattle.std.proofs.Common.{◌≡◌, ℕ, ◌+◌, ◌<◌, ◌≤◌, Bool, true, false, List, [], ◌∷◌, ◌++◌, length, Ok, Err, Result, sym, subst}
use Rattle.proposals.specs.declared.refusals.Reason.TheVariants.{TextTooLong, BadNamesLine}
use Rattle.matching.specs.Meanings.{Meaning, Lawful}
use Rattle.runs.specs.Runs.{Event, Run}
use Rattle.runs.specs.Runs.Run.{none}
use Rattle.runs.proofs.Law.{run_on, law_of_runs}
use Rattle.update_text.specs.Lines.{Counted, fields_of}
use Rattle.update_text.specs.Names.{NamesLine, Placing}
use Rattle.update_text.specs.Orders.{Asks, Whole}
use Rattle.update_text.specs.Steps.{Started, TookPart, is_end, unread}
use Rattle.update_text.specs.Texts.{Headed, LineAt, lines_of}
use Rattle.update_text.specs.declared.columns.Columns.{Columns}
use Rattle.update_text.specs.declared.orders.Order.{Order}
use Rattle.update_text.specs.declared.parts.Part.{Part}
use Rattle.update_text.specs.declared.orders.Flaw.{Flaw}
use Rattle.update_text.specs.declared.parts.Parts.{Parts}
use Rattle.update_text.proofs.Following.{BeforeLine, at_end, first_line, headed_by, line_at, line_counted, not_at_end, not_last}
use Rattle.update_text.proofs.Naming.{named_placing}
use Rattle.update_text.proofs.Walking.{after, before_first, none_left}
use Rattle.feeding.specs.Obeying.{Obeys}
use Rattle.feeding.specs.Obeying.Obeys.{obeyed}
use Rattle.feeding.specs.Texts.{Done, Fed, Feeding, StopsAt, names_stop, stop_after}
use Rattle.feeding.specs.Texts.Done.{nothing, further}
use Rattle.feeding.specs.Texts.Fed.{long, unnamed, stopped, finished}
use Rattle.feeding.specs.declared.feeding.Stop.{Stop}

-- the calls of the lines done are a run
ran : (columns : Columns) (text : List ℕ) (m : Meaning) (n : ℕ) (events : List Event) (t : Meaning) → Done columns text m n events t → Run m events t
ran columns text m n events t nothing = none
ran columns text m n events t (further {n = k} {events = es} {t = s} {e = e} d l) = run_on m es s e t (ran columns text m k es s d) l.step

ran_fed : (text : List ℕ) (m : Meaning) (r : Result ℕ Stop) (events : List Event) (t : Meaning) → Fed text m r events t → Run m events t
ran_fed text m r events t (long h) = none
ran_fed text m r events t (unnamed h line at k) = none
ran_fed text m r events t (stopped {n = n} few columns headed d more line at stop) = ran columns text m n events t d
ran_fed text m r events t (finished {n = n} few columns headed d end) = ran columns text m n events t d

-- what was fed keeps the law
pub fed_lawfully : (text : List ℕ) (m : Meaning) (r : Result ℕ Stop) (events : List Event) (t : Meaning) → Lawful m → Fed text m r events t → Feeding text m r t
fed_lawfully text m r events t h f = record { events = events; fed = f; law = law_of_runs m t events h (ran_fed text m r events t f) }

-- a text that is not too long, whose first line names the columns; s stands after n further lines
pub record Reading (columns : Columns) (text : List ℕ) (n : ℕ) (s : Parts) : Type 0 where
  pub few : length text ≤ 32768
  pub headed : Headed columns text
  pub before : BeforeLine text (n + 1) s

-- n lines were done
abbrev pub Doing : Columns → List ℕ → Meaning → ℕ → Meaning → Type 0
Doing columns text m n t = (events : List Event) × Done columns text m n events t

pub begun : {columns : Columns} {text : List ℕ} {s t : Parts} {p : Part} → length text ≤ 32768 → Started s text 0 10 → TookPart s p t → NamesLine columns p → Reading columns text 0 t
begun {columns} {text} {s} {t} {p} few b h names =
    record { few = few; headed = headed_by text few s p t b h columns names; before = after 10 text 0 0 s p t (before_first 10 text 0 s b) h }

pub placed : {columns : Columns} {text : List ℕ} {n : ℕ} {s : Parts} → Reading columns text n s → Placing columns
placed r = named_placing (fields_of r.headed.0) _ r.headed.2.named

module _ {columns : Columns} {text : List ℕ} {n : ℕ} {s t : Parts} {p : Part} (r : Reading columns text n s) (h : TookPart s p t) where
  line : LineAt text (n + 1) p
  line = line_at text r.few (n + 1) s p t r.before h

  pub line_is_counted : Counted p
  line_is_counted = line_counted text r.few (n + 1) s p t r.before h

  pub next_line : Reading columns text (n + 1) t
  next_line = record { few = r.few; headed = r.headed; before = after 10 text 0 (n + 1) s p t r.before h }

  -- one more line done
  pub line_more : {m u v : Meaning} → Doing columns text m n u → Whole p × ((o : Order) × Asks columns p o × Obeys u o (Ok tt) v) → Doing columns text m (n + 1) v
  line_more {m} {u} {v} d k = go k.1.2
    where
      go : Obeys u k.1.0 (Ok tt) v → Doing columns text m (n + 1) v
      go (obeyed call answer means step ok) = (
        d.0 ++ record { call = call; answer = answer } ∷ [],
        further d.1 record {
          line = p;
          there = line;
          whole = k.0;
          order = k.1.0;
          asks = k.1.1;
          means = means;
          step = step;
          accepts = ok;
        },
      )

  pub fed_to_end : {m u : Meaning} {b : Bool} → Lawful m → Doing columns text m n u → b ≡ is_end p → b ≡ true → Feeding text m (Ok n) u
  fed_to_end {b = b} lawful d is end = fed_lawfully text _ _ d.0 _ lawful (finished r.few columns r.headed d.1 (at_end text (n + 1) p b line is end))

  pub fed_to_stop : {m u v : Meaning} {e : Flaw} → Lawful m → Doing columns text m n u → false ≡ is_end p → StopsAt columns u p e × (v ≡ u) → Feeding text m (Err (stop_after n e)) v
  fed_to_stop {m} {u} {v} {e} lawful d some stop =
      fed_lawfully text m _ d.0 v lawful
      (subst (λ (w : Meaning). Fed text m (Err (stop_after n e)) d.0 w) (sym stop.1) (stopped r.few columns r.headed d.1 (not_at_end text (n + 1) p line some) p line stop.0))

-- after a line that was done there is another
pub never_out : (columns : Columns) (text : List ℕ) (m t : Meaning) (n : ℕ) (events : List Event) → Headed columns text → Done columns text m n events t →
    length (lines_of text) ≤ n + 1 → ⊥
never_out columns text m t n events headed nothing out = not_last text 0 headed.0 headed.1 headed.2.fed out
never_out columns text m t n events headed (further {n = k} d l) out = not_last text (k + 1) l.line l.there l.whole.fed out

pub not_out : {columns : Columns} {text : List ℕ} {n : ℕ} {s : Parts} {m u : Meaning} → Reading columns text n s → Doing columns text m n u → unread s ≡ false → ⊥
not_out {columns} {text} {n} {s} {m} {u} r d out = never_out columns text m u n d.0 r.headed d.1 (none_left 10 text 0 (n + 1) s r.before out)

pub fed_too_long : {text : List ℕ} {m : Meaning} {e : Stop} → Lawful m → e ≡ names_stop TextTooLong → 32768 < length text → Feeding text m (Err e) m
fed_too_long {text} {m} lawful is more = fed_lawfully text m _ [] m lawful (subst (λ (x : Stop). Fed text m (Err x) [] m) (sym is) (long more))

pub fed_unnamed : {text : List ℕ} {m : Meaning} {e : Stop} {s t : Parts} {p : Part} → Lawful m → e ≡ names_stop BadNamesLine → length text ≤ 32768 → Started s text 0 10 →
    TookPart s p t → ((columns : Columns) → NamesLine columns p → ⊥) → Feeding text m (Err e) m
fed_unnamed {text} {m} {e} {s} {t} {p} lawful is few b h unlike =
    fed_lawfully text m _ [] m lawful (subst (λ (x : Stop). Fed text m (Err x) [] m) (sym is) (unnamed few p (first_line text few s p t b h) unlike))
