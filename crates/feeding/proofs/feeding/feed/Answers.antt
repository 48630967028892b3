use Rattle.std.proofs.Common.{[], length, ap, arith}
use Rattle.update_text.proofs.Cutting.{part_falls, part_left}
use Rattle.feeding.specs.Texts.Done.{nothing}
use Rattle.feeding.proofs.Following.{begun, fed_to_end, fed_to_stop, fed_too_long, fed_unnamed, line_is_counted, line_more, next_line, not_out, placed}
use Rattle.feeding.proofs.feeding.feed.Goals as goal

pub returns-then-text-gt-TEXT_LIMIT-clause-fed : goal.returns-then-text-gt-TEXT_LIMIT-clause-fed
returns-then-text-gt-TEXT_LIMIT-clause-fed g c = λ sound. fed_too_long (g.W.Way.lawful c.args.recipient.now sound) c.at_names.ensures c.if-text-gt-TEXT_LIMIT.true

pub returns-in_default-clause-fed : goal.returns-in_default-clause-fed
returns-in_default-clause-fed g c = λ sound.
    let taken = c.in_default.ensures c.of-lines.ensures.more in
    fed_unnamed (g.W.Way.lawful c.args.recipient.now sound) c.at_names-in_default.ensures c.if-text-gt-TEXT_LIMIT.false c.of-lines.ensures taken.1 taken.2

pub loop-line-init : goal.loop-line-init
loop-line-init g c =
    let names = c.in-Some.ensures in
    rw c.into_iter-line-iterator.ensures.into_iter_gives (
      omega (arith, part_left c.of-lines.result names.0 c.read_names.new.lines names.1, ap length c.of-lines.ensures.rest),
      begun c.if-text-gt-TEXT_LIMIT.false c.of-lines.ensures names.1 names.2,
      λ sound. (sound, ([], nothing)),
    )

pub loop-line-preserved : goal.loop-line-preserved
loop-line-preserved g c =
    let (left, reading, done) = c.loop-line.invariant in
    let took = c.in-Some-line.ensures.steps in (
      omega (arith, left, part_falls c.loop-line.line-iterator c.in-Some-line.line c.next.new.self took c.if-is_end.ensures),
      next_line reading took,
      λ sound.
          let old = done sound in (
            c.obey_line.ensures.sound old.0,
            line_more reading took old.1 (c.in_default-obey_line.ensures.exact old.0 (line_is_counted reading took) (placed reading)),
          ),
    )

pub returns-then-is_end-clause-fed : goal.returns-then-is_end-clause-fed
returns-then-is_end-clause-fed g c = λ sound.
    let (_, reading, done) = c.loop-line.invariant in
    fed_to_end reading c.in-Some-line.ensures.steps (g.W.Way.lawful c.args.recipient.now sound) (done sound).1 c.is_end.ensures c.if-is_end.true

pub returns-in-Err-clause-fed : goal.returns-in-Err-clause-fed
returns-in-Err-clause-fed g c = λ sound.
    let (_, reading, done) = c.loop-line.invariant in
    let took = c.in-Some-line.ensures.steps in
    let old = done sound in
    fed_to_stop reading took (g.W.Way.lawful c.args.recipient.now sound) old.1 c.if-is_end.ensures
    (c.in-Err.ensures.exact old.0 (line_is_counted reading took) (placed reading))

pub returns-clause-fed : goal.returns-clause-fed
returns-clause-fed g c = λ sound. absurd (not_out c.loop-line.invariant.1 (c.loop-line.invariant.2 sound).1 c.in-None.ensures.steps.0)
