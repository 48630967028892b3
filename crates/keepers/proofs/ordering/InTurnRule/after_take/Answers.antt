use Rattle.std.proofs.Common.{rules}
use Rattle.keepers.proofs.OrderedCalls.{take_done}
use Rattle.keepers.proofs.ordering.InTurnRule.after_take.Goals as goal

pub returns : goal.returns
returns c = λ k pair ok closed. take_done k c.args.store.now c.rechoose.new.self pair c.args.closed _ ok closed (search rules) c.rechoose.ensures
