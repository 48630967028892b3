use Rattle.std.proofs.Common.{◌∙◌, rules}
use Rattle.feeding.proofs.Obeying.{line_answered}
use Rattle.feeding.proofs.feeding.obey_line.Goals as goal

pub returns-clause-exact : goal.returns-clause-exact
returns-clause-exact g c = λ sound counted placing.
    line_answered _ _ _ _ c.in_ok-order.order c.meters-meters.result c.obey.result _ (search rules) (c.meters-meters.ensures ∙ c.size.ensures sound)
    (c.in_ok-order.ensures counted placing) (c.obey.ensures.exact sound)
