use Rattle.std.proofs.Common.{◌+◌, ◌≤◌, length}
use Rattle.update_text.specs.Steps.{rest_of}
use Rattle.feeding.proofs.Following.{Doing, Reading}
use Rattle.feeding.proofs.feeding.feed.Given as goal

abbrev pub invariant-loop-line : goal.invariant-loop-line
invariant-loop-line g l =
    (l.done + length (rest_of l.line-iterator) ≤ 32768) × Reading l.columns l.text l.done l.line-iterator ×
    (g.W.Way.sound l.initial.recipient →
    g.W.Way.sound l.recipient × Doing l.columns l.text (g.W.Way.meaning l.initial.recipient) l.done (g.W.Way.meaning l.recipient))
