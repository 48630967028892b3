use Rattle.std.proofs.Common.{◌<◌, is_some, sym, ap, ◌∙◌, subst}
use Rattle.trials.proofs.Single.{lone_take}
use Rattle.trials.proofs.lone.LoneKeeper.take.Goals as goal

pub returns-clause-exact : goal.returns-clause-exact
returns-clause-exact c = λ ok.
    lone_take c.args.self.now.size.meters c.args.self.now.slot c.args.pair ok (subst (λ h. h < c.args.self.now.size.meters) c.high.ensures c.in_ok-admit.ensures)
    (ap is_some (sym (c.saving.ensures ok)) ∙ c.if-is_none.ensures)
