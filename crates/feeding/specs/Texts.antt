-- What feeding a text to a recipient, a board or a keeper alone, answers and does.
use Rattle.std.specs.Prelude.{◌≡◌, ℕ, ◌+◌, ◌<◌, ◌≤◌, true, ◌⊎◌, List, [], ◌∷◌, ◌++◌, length, Some, None, Ok, Err, Option, Result, MatchResult, ◌≢◌, codes, decimal}
use Rattle.std.specs.List.{AllByRecursion}
use Rattle.proposals.specs.declared.refusals.Layer.TheVariants as layer
use Rattle.proposals.specs.declared.refusals.Reason.{Reason}
use Rattle.proposals.specs.declared.refusals.Reason.TheVariants.{TextTooLong, BadNamesLine}
use Rattle.proposals.specs.declared.refusals.Refusal.{Refusal}
use Rattle.proposals.specs.Refusals.{number_of}
use Rattle.matching.specs.Meanings.{Meaning}
use Rattle.runs.specs.Runs.{Event, Step, accepted}
use Rattle.runs.specs.Law.{LawAlong}
use Rattle.update_text.specs.Orders.{Asks, Flawed, Whole, text_flaw}
use Rattle.update_text.specs.Steps.{TookPart, unread}
use Rattle.update_text.specs.Texts.{AtEnd, Headed, LineAt}
use Rattle.update_text.specs.Names.{NamesLine, Placing}
use Rattle.update_text.specs.Writing.{Wish, Writable, WrittenFrom, written}
use Rattle.update_text.specs.declared.columns.Columns.{Columns}
use Rattle.update_text.specs.declared.orders.Flaw.{Flaw}
use Rattle.update_text.specs.declared.orders.Order.{Order}
use Rattle.update_text.specs.declared.parts.Part.{Part}
use Rattle.update_text.specs.declared.parts.Parts.{Parts}
use Rattle.feeding.specs.Obeying.{Means, Obeys, flaw_of}
use Rattle.feeding.specs.declared.feeding.Stop.{Stop}

-- what the first line of a reader was: a names line for these columns, or one for none
abbrev pub NamesTaken : Parts → Option Columns → Parts → Type 0
NamesTaken s None t = unread s ≡ true → (line : Part) × TookPart s line t × ((columns : Columns) → NamesLine columns line → ⊥)
NamesTaken s (Some columns) t = (line : Part) × TookPart s line t × NamesLine columns line

-- one line done: it asks for the event's call, which was accepted
pub record LineDone (columns : Columns) (text : List ℕ) (place : ℕ) (m : Meaning) (e : Event) (m' : Meaning) : Type 0 where
  pub line : Part
  pub there : LineAt text place line
  pub whole : Whole line
  pub order : Order
  pub asks : Asks columns line order
  pub means : Means order e.call
  pub step : Step m e.call e.answer m'
  pub accepts : accepted e.answer ≡ true

-- the first n lines after the names line were done, one after another: these were their calls and answers, from m to m'
pub data Done (columns : Columns) (text : List ℕ) (m : Meaning) : ℕ → List Event → Meaning → Type 0 where
  nothing : Done columns text m 0 [] m
  further : {n : ℕ} {events : List Event} {t u : Meaning} {e : Event} → Done columns text m n events t → LineDone columns text (n + 1) t e u →
      Done columns text m (n + 1) (events ++ e ∷ []) u

-- a recipient that means m stops at a line: the line is not in form, or asks for what is refused
pub record RefusedAt (columns : Columns) (m : Meaning) (line : Part) (e : Flaw) : Type 0 where
  pub whole : Whole line
  pub order : Order
  pub asks : Asks columns line order
  pub refusal : Refusal
  pub refuses : Obeys m order (Err refusal) m
  pub flaw : e ≡ flaw_of m.size line.at order refusal

abbrev pub StopsAt : Columns → Meaning → Part → Flaw → Type 0
StopsAt columns m line e = Flawed columns line e ⊎ RefusedAt columns m line e

-- a stop at the names line, and one after n other lines
abbrev pub names_stop : Reason → Stop
names_stop reason = record { done = 0; line = 1; byte = 0; refusal = (text_flaw 0 reason).refusal }

abbrev pub stop_after : ℕ → Flaw → Stop
stop_after n e = record { done = n; line = n + 2; byte = e.byte; refusal = e.refusal }

-- how a stop is printed: the word, the line, the byte and the refusal's number, with a `;` between two of them
abbrev pub stop_line : Stop → List ℕ
stop_line s = codes "stopped;" ++ (decimal s.line ++ 59 ∷ (decimal s.byte ++ 59 ∷ decimal (number_of s.refusal.reason)))

-- what feeding a text answers and does: the lines before the first that stops it are done, and nothing else is
pub data Fed (text : List ℕ) (m : Meaning) : Result ℕ Stop → List Event → Meaning → Type 0 where
  long : 32768 < length text → Fed text m (Err (names_stop TextTooLong)) [] m
  unnamed : length text ≤ 32768 → (line : Part) → LineAt text 0 line → ((columns : Columns) → NamesLine columns line → ⊥) → Fed text m (Err (names_stop BadNamesLine)) [] m
  stopped : {n : ℕ} {events : List Event} {t : Meaning} {e : Flaw} → length text ≤ 32768 → (columns : Columns) → Headed columns text →
      Done columns text m n events t → (AtEnd text (n + 1) → ⊥) → (line : Part) → LineAt text (n + 1) line → StopsAt columns t line e →
      Fed text m (Err (stop_after n e)) events t
  finished : {n : ℕ} {events : List Event} {t : Meaning} → length text ≤ 32768 → (columns : Columns) → Headed columns text →
      Done columns text m n events t → AtEnd text (n + 1) → Fed text m (Ok n) events t

-- and the calls of the lines done are a run, along which the law holds
pub record Feeding (text : List ℕ) (m : Meaning) (r : Result ℕ Stop) (m' : Meaning) : Type 0 where
  pub events : List Event
  pub fed : Fed text m r events m'
  pub law : LawAlong m events m'

-- a line that a recipient was given: done, or a stop
abbrev pub ObeyedLine : Columns → Part → Meaning → Result (Unit {0}) Flaw → Meaning → Type 0
ObeyedLine columns line m r m' =
    MatchResult r (λ _. Whole line × ((o : Order) × Asks columns line o × Obeys m o (Ok tt) m')) (λ e. StopsAt columns m line e × (m' ≡ m))

-- a text that was fed to its end had been written out, with as many lines as were done;
-- and what was written out, and is not too long, is fed to its end, or stopped by a refusal of another layer than the text
pub record FedAsWritten : Type 0 where
  pub done : (text : List ℕ) (m t : Meaning) (n : ℕ) (events : List Event) → Fed text m (Ok n) events t → (columns : Columns) × WrittenFrom text columns n
  pub read : (columns : Columns) (wishes : List Wish) (m t : Meaning) (r : Result ℕ Stop) (events : List Event) → Placing columns → AllByRecursion Writable wishes →
      length (written columns wishes) ≤ 32768 → Fed (written columns wishes) m r events t →
      MatchResult r (λ n. n ≡ length wishes) (λ s. s.refusal.layer ≢ layer.Text)
