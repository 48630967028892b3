use Rattle.std.proofs.Common.{ℕ, ◌-◌, ◌<◌, arith}
use Rattle.settling.specs.Following.{row}
use Rattle.board.proofs.Changing.{serves}
use Rattle.board.proofs.Copying.{copied, matching, followed_mate}
use Rattle.board.proofs.boards.Board.open.Goals as goal

pub loop-level-preserved : goal.loop-level-preserved
loop-level-preserved g c sound =
    let m = g.R.Reader.meaning c.args.keeper in
    let l = c.loop-level.level - 1 in
    let hl : c.loop-level.level - 1 < 20 = omega arith in
    let T : ℕ → ℕ = row c.mates_of.result in
    let is = c.mates_of.ensures sound in
    let inv = c.loop-level.invariant sound in
    let f = c.follow.ensures.follows inv.0 hl (matching m (g.R.Reader.lawful c.args.keeper sound) l T is) in (
      f.sound,
      λ j v le hj hv.
          followed_mate m l c.loop-level.kept c.follow.new.self T is f j v hj hv (λ ne. inv.1 j v (omega arith) hj hv),
    )

pub returns-clause-serves : goal.returns-clause-serves
returns-clause-serves g c = λ sound.
    let m = g.R.Reader.meaning c.args.keeper in
    let h = g.R.Reader.lawful c.args.keeper sound in
    let inv = c.loop-level.invariant sound in
    serves (g.R.Reader.sound c.args.keeper) m c.loop-level.kept sound h (copied m h c.loop-level.kept inv.0 (λ j v hj hv. inv.1 j v (omega arith) hj hv))
