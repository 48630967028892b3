use Rattle.std.proofs.Common.{Err, ap, ◌∙◌}
use Rattle.std.proofs.lemmas.Result.{err_from_is_err_and}
use Rattle.feeding.specs.Obeying.{unmeant}
use Rattle.feeding.proofs.Obeying.{added, not_meant, taken_off}
use Rattle.feeding.proofs.feeding.obey.Goals as goal

pub returns-in_err-new-in-Add-clause-exact : goal.returns-in_err-new-in-Add-clause-exact
returns-in_err-new-in-Add-clause-exact g c = λ sound.
    let p = err_from_is_err_and c.from_residual.result c.from_residual.ensures.1 in
    not_meant _ c.args.order c.from_residual.result _ (p.1 ∙ ap Err p.2) (ap unmeant c.in-Add.is ∙ c.in_err-new-in-Add.ensures)

pub returns-in_err-new-in-Off-clause-exact : goal.returns-in_err-new-in-Off-clause-exact
returns-in_err-new-in-Off-clause-exact g c = λ sound.
    let p = err_from_is_err_and c.from_residual-in_err-new-in-Off.result c.from_residual-in_err-new-in-Off.ensures.1 in
    not_meant _ c.args.order c.from_residual-in_err-new-in-Off.result _ (p.1 ∙ ap Err p.2) (ap unmeant c.in-Off.is ∙ c.in_err-new-in-Off.ensures)

pub returns-in_ok-new-in-Add-clause-exact : goal.returns-in_ok-new-in-Add-clause-exact
returns-in_ok-new-in-Add-clause-exact g c = λ sound.
    added _ _ c.args.order c.in-Add.a c.in-Add.b c.in-Add.saving c.in_ok-new-in-Add.field-0 c.add.result c.in-Add.is c.in_ok-new-in-Add.ensures.1 (c.add.ensures.exact sound)

pub returns-in_ok-new-in-Off-clause-exact : goal.returns-in_ok-new-in-Off-clause-exact
returns-in_ok-new-in-Off-clause-exact g c = λ sound.
    taken_off _ _ c.args.order c.in-Off.a c.in-Off.b c.in_ok-new-in-Off.field-0 c.take_off.result c.in-Off.is c.in_ok-new-in-Off.ensures.1 (c.take_off.ensures.exact sound)
