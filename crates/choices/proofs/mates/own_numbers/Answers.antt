use Rattle.std.proofs.Common.{rules}
use Rattle.choices.proofs.mates.own_numbers.Goals as goal

pub returns : goal.returns
returns c = λ v hv. search (rules, c.from_fn.ensures.items.at v 0 hv)
