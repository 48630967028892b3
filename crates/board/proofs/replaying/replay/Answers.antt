use Rattle.std.proofs.Common.{◌≡◌, ◌<◌, List, length, take, refl, ◌∙◌, subst, arith}
use Rattle.std.proofs.lemmas.List.{drop-set-lt}
use Rattle.runs.specs.Runs.{Event, Run}
use Rattle.runs.specs.Runs.Run.{none}
use Rattle.runs.specs.Law.{LawAlong}
use Rattle.runs.proofs.Law.{law_of_runs}
use Rattle.board.specs.Replaying.{events_of}
use Rattle.board.proofs.Stepping.{run_more, events_short}
use Rattle.board.proofs.replaying.replay.Goals as goal

pub loop-i-init : goal.loop-i-init
loop-i-init g c = (refl, λ s. (s, none))

pub loop-i-preserved : goal.loop-i-preserved
loop-i-preserved g c =
    let calls = c.args.calls.now in
    let l = c.loop-i in
    let hc : l.i < length calls = omega arith in
    let ha : l.i < length l.answers = omega arith in (
      drop-set-lt (length calls) l.answers l.i c.answer.result hc ∙ l.invariant.0,
      λ s.
          let inv = l.invariant.1 s in (
            c.answer.ensures.serves inv.0,
            run_more _ _ _ calls l.answers l.i c.index-calls-i.result c.answer.result hc ha c.index-calls-i.is inv.1 (c.answer.ensures.step inv.0),
          ),
    )

pub returns-clause-law : goal.returns-clause-law
returns-clause-law g c = λ sound.
    let l = c.loop-i in
    let calls = c.args.calls.now in
    let opened = c.open-board.ensures.serves sound in
    let m = g.K.Reader.meaning l.board.keeper in
    let events = events_of calls l.answers in
    let same : events_of (take l.i calls) (take l.i l.answers) ≡ events = events_short l.i calls l.answers (omega arith) in
    subst (λ (k : g.row.K.Denot). LawAlong (g.K.Reader.meaning k) events m) c.open-board.ensures.keeper
    (law_of_runs (g.K.Reader.meaning c.open-board.result.keeper) m events opened.lawful
    (subst (λ (es : List Event). Run (g.K.Reader.meaning c.open-board.result.keeper) es m) same (l.invariant.1 opened).1))
