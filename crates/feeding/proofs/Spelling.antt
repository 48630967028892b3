-- What is fed to its end was written out, and what was written out is not at fault by itself.
use Rattle.std.proofs.Common.{◌≡◌, ℕ, ◌+◌, ◌<◌, ◌≤◌, ◌||◌, eqb, ltb, leb, List, length, Some, None, Ok, Err, Option, Result, sym, refl, ap, ◌∙◌, subst, inl, inr, ⊎_elim, arith, below_more, MatchResult}
use Rattle.std.specs.List.{AllByRecursion}
use Rattle.std.proofs.lemmas.Bool.{cases_lt, cond_both}
use Rattle.proposals.specs.declared.refusals.Layer.{Layer}
use Rattle.proposals.specs.declared.refusals.Layer.TheVariants as layer
use Rattle.proposals.specs.declared.refusals.Refusal.{Refusal}
use Rattle.matching.specs.Canonical.{is_for}
use Rattle.matching.specs.Meanings.{Meaning}
use Rattle.matching.proofs.Lists.{none_some}
use Rattle.runs.specs.Runs.{Answer, Call, Event, Step, refusal}
use Rattle.runs.specs.Runs.Answer.{refused}
use Rattle.runs.specs.Runs.Call.{propose, withdraw, partner, saved, list}
use Rattle.runs.specs.Runs.Step.{refuses, proposes, withdraws, partners, sums, lists}
use Rattle.update_text.specs.Names.{Placing}
use Rattle.update_text.specs.Orders.{Flawed}
use Rattle.update_text.specs.Texts.{AtEnd, Headed, LineAt, Orderly}
use Rattle.update_text.specs.Writing.{ReadsAs, Wish, Writable, WrittenFrom, written}
use Rattle.update_text.specs.declared.columns.Columns.{Columns}
use Rattle.update_text.specs.declared.orders.Flaw.{Flaw}
use Rattle.update_text.specs.declared.orders.Order.{Order}
use Rattle.update_text.specs.declared.orders.Order.TheVariants.{Add, Off}
use Rattle.update_text.specs.declared.parts.Part.{Part}
use Rattle.update_text.proofs.Naming.{one_placing}
use Rattle.update_text.proofs.Spelling.{written_and_read}
use Rattle.feeding.specs.Obeying.{Means, Obeys, unmeant}
use Rattle.feeding.specs.Obeying.Obeys.{senseless, turned_down}
use Rattle.feeding.specs.Texts.{Done, Fed, FedAsWritten}
use Rattle.feeding.specs.Texts.Done.{nothing, further}
use Rattle.feeding.specs.Texts.Fed.{long, unnamed, stopped, finished}
use Rattle.feeding.specs.declared.feeding.Stop.{Stop}

-- the lines that were done ask for something
orderly : (columns : Columns) (text : List ℕ) (m t : Meaning) (n : ℕ) (events : List Event) → Done columns text m n events t →
    (place : ℕ) → place < n → (line : Part) × LineAt text (place + 1) line × Orderly columns line
orderly columns text m t n events nothing = λ place low. absurd (omega arith)
orderly columns text m t n events (further {n = k} {events = es} {t = s} d l) =
    below_more (λ place. (line : Part) × LineAt text (place + 1) line × Orderly columns line) k (orderly columns text m s k es d) (l.line, l.there, (l.order, l.whole, l.asks))

-- a refusal is of this layer, if there is one
abbrev OfLayer : Layer → Option Refusal → Type 0
OfLayer l None = Unit {0}
OfLayer l (Some e) = e.layer ≡ l

layer_is : (l : Layer) (o : Option Refusal) (e : Refusal) → OfLayer l o → o ≡ Some e → e.layer ≡ l
layer_is l None e h is = absurd (none_some refl is)
layer_is l (Some d) e h is = let same : d ≡ e = cc in ap (λ (x : Refusal). x.layer) (sym same) ∙ h

-- proposals and pairs are refused by their makers, calls by the keeper
by_maker : (o : Order) → OfLayer layer.Proposal (unmeant o)
by_maker (Add a b saving) =
    cond_both (eqb a.value b.value) _ _ (OfLayer layer.Proposal) (λ _. refl)
    (λ _. cond_both (eqb saving.value 0 || ltb 1048575 saving.value) _ _ (OfLayer layer.Proposal) (λ _. refl) (λ _. tt))
by_maker (Off a b) = cond_both (eqb a.value b.value) _ _ (OfLayer layer.Proposal) (λ _. refl) (λ _. tt)

by_keeper : (m : Meaning) (o : Order) (call : Call) → Means o call → OfLayer layer.Keeper (refusal m call)
by_keeper m (Add a b saving) (propose p) h =
    cond_both (leb m.size p.high) _ _ (OfLayer layer.Keeper) (λ _. refl)
    (λ _. cond_both (is_for p.low p.high m.opened) _ _ (OfLayer layer.Keeper) (λ _. refl)
    (λ _. cond_both (eqb (length m.opened) m.capacity) _ _ (OfLayer layer.Keeper) (λ _. refl) (λ _. tt)))
by_keeper m (Add a b saving) (withdraw pair) h = absurd h
by_keeper m (Add a b saving) (partner v) h = absurd h
by_keeper m (Add a b saving) saved h = absurd h
by_keeper m (Add a b saving) (list w) h = absurd h
by_keeper m (Off a b) (propose p) h = absurd h
by_keeper m (Off a b) (withdraw pair) h =
    cond_both (leb m.size pair.high) _ _ (OfLayer layer.Keeper) (λ _. refl)
    (λ _. cond_both (is_for pair.low pair.high m.opened) _ _ (OfLayer layer.Keeper) (λ _. tt) (λ _. refl))
by_keeper m (Off a b) (partner v) h = absurd h
by_keeper m (Off a b) saved h = absurd h
by_keeper m (Off a b) (list w) h = absurd h

refused_by : (m t : Meaning) (call : Call) (a : Answer) (e : Refusal) → Step m call a t → a ≡ refused e → refusal m call ≡ Some e
refused_by m t call a e (refuses h) is = h ∙ cc
refused_by m t call a e (proposes h b) is = let z : ◌≡◌ {A = ℕ} 0 1 = cc in absurd (omega arith)
refused_by m t call a e (withdraws h b) is = let z : ◌≡◌ {A = ℕ} 0 1 = cc in absurd (omega arith)
refused_by m t call a e (partners h) is = let z : ◌≡◌ {A = ℕ} 0 1 = cc in absurd (omega arith)
refused_by m t call a e sums is = let z : ◌≡◌ {A = ℕ} 0 1 = cc in absurd (omega arith)
refused_by m t call a e (lists h) is = let z : ◌≡◌ {A = ℕ} 0 1 = cc in absurd (omega arith)

-- a refused order is no fault of the text
not_of_text : (m t : Meaning) (o : Order) (e : Refusal) → Obeys m o (Err e) t → e.layer ≡ layer.Text → ⊥
not_of_text m t o e (senseless h) is =
    let by = layer_is layer.Proposal (unmeant o) e (by_maker o) h in let z : ◌≡◌ {A = ℕ} 0 1 = cc in omega arith
not_of_text m t o e (turned_down call means step) is =
    let by = layer_is layer.Keeper (refusal m call) e (by_keeper m o call means) (refused_by m m call (refused e) e step refl) in
    let z : ◌≡◌ {A = ℕ} 0 1 = cc in omega arith

done_was_written : (text : List ℕ) (m t : Meaning) (n : ℕ) (events : List Event) → Fed text m (Ok n) events t → (columns : Columns) × WrittenFrom text columns n
done_was_written text m t n events (finished few columns headed d end) =
    (columns, written_and_read.1 text columns n record { headed = headed; lines = orderly columns text m t n events d; end = end })

module _ (columns : Columns) (wishes : List Wish) (placing : Placing columns) (writable : AllByRecursion Writable wishes) where
  reads : ReadsAs (written columns wishes) columns wishes
  reads = written_and_read.0 columns wishes placing writable

  -- the columns that were found are those that were written
  same_columns : (found : Columns) → Headed found (written columns wishes) → found ≡ columns
  same_columns found headed = (one_placing headed.0 columns (reads.names headed.0 headed.1)).1 found headed.2

  no_flaw : (found : Columns) (n : ℕ) (line : Part) (e : Flaw) → Headed found (written columns wishes) → (AtEnd (written columns wishes) (n + 1) → ⊥) →
      LineAt (written columns wishes) (n + 1) line → Flawed found line e → ⊥
  no_flaw found n line e headed more at flawed =
      ⊎_elim
      (λ low. reads.wish n line (Err e) low at (subst (λ (c : Columns). Flawed c line e) (same_columns found headed) flawed))
      (λ ge. let k : n ≡ length wishes = omega (arith, at.there, reads.end.0) in more (subst (λ (i : ℕ). AtEnd (written columns wishes) (i + 1)) (sym k) reads.end))
      (cases_lt n (length wishes))

  written_is_read : (m t : Meaning) (r : Result ℕ Stop) (events : List Event) → length (written columns wishes) ≤ 32768 → Fed (written columns wishes) m r events t →
      MatchResult r (λ n. n ≡ length wishes) (λ s. s.refusal.layer ≡ layer.Text → ⊥)
  written_is_read m t r events short (long h) = λ is. omega arith
  written_is_read m t r events short (unnamed few line at none) = λ is. none columns (reads.names line at)
  written_is_read m t r events short (stopped {n = n} {e = e} few found headed d more line at stop) = λ is.
      elim stop [
        | inl flawed ↦ no_flaw found n line e headed more at flawed
        | inr x ↦ not_of_text t t x.order x.refusal x.refuses (ap (λ (f : Flaw). f.refusal.layer) (sym x.flaw) ∙ is)
      ]
  written_is_read m t r events short (finished {n = n} few found headed d end) = omega (arith, end.0, reads.end.0)

pub fed_as_written : FedAsWritten
fed_as_written =
    record {
      done = done_was_written;
      read = λ columns wishes m t r events placing writable. written_is_read columns wishes placing writable m t r events;
    }
