use Rattle.std.proofs.Common.{rules}
use Rattle.keepers.proofs.OrderedCalls.{put_done}
use Rattle.keepers.proofs.ordering.InTurnRule.after_put.Goals as goal

pub returns : goal.returns
returns c = λ k ok opened. put_done k c.args.store.now c.rechoose.new.self c.args.proposal _ ok opened (search rules) c.rechoose.ensures
