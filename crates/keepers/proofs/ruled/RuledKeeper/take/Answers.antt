use Rattle.std.proofs.Common.{rules, sym, subst}
use Rattle.matching.specs.Meanings.{Meaning, Take}
use Rattle.keepers.specs.Meant.{meaning_of}
use Rattle.keepers.proofs.ruled.RuledKeeper.take.Goals as goal

pub returns-in_err-closed-clause-exact : goal.returns-in_err-closed-clause-exact
returns-in_err-closed-clause-exact g c = λ ok.
    let why = c.in_err-closed.ensures.exact (g.R.Rule.in_order _ ok) in
    search rules

pub returns-in_err-closed-clause-rule : goal.returns-in_err-closed-clause-rule
returns-in_err-closed-clause-rule g c = λ ok.
    let why = c.in_err-closed.ensures.exact (g.R.Rule.in_order _ ok) in
    search rules

pub returns-clause-exact : goal.returns-clause-exact
returns-clause-exact g c = λ ok.
    let k = c.args.self.now.store in
    let pair = c.args.pair in
    let closed = c.in_ok-closed.ensures.exact (g.R.Rule.in_order k ok) in
    let became : Meaning → Type 0 = λ m'. Take (meaning_of k) pair m' in
    (closed.may, subst became (sym (c.after_take.ensures k pair ok closed).1) ((g.R.Rule.keeps k ok).takes pair closed.may))
