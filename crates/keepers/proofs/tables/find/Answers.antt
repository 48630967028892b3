use Rattle.std.proofs.Common.{rules}
use Rattle.std.proofs.lemmas.Fn.{always_returns_same}
use Rattle.keepers.proofs.Places.{order, searched}
use Rattle.keepers.proofs.tables.find.Goals as goal

pub returns-clause-exact : goal.returns-clause-exact
returns-clause-exact c = λ up.
    let ensures = c.binary_search_by.ensures in
    let pair = c.args.pair in
    searched c.args.opened.now pair.low pair.high up _ ensures.bound
    (ensures.position (order pair.low pair.high) (always_returns_same _ _ _ (λ a r f called. search rules)))
