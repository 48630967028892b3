use Rattle.std.proofs.Common.{rules, sym, subst}
use Rattle.matching.specs.Meanings.{Meaning, Put}
use Rattle.keepers.specs.Meant.{meaning_of}
use Rattle.keepers.proofs.ruled.RuledKeeper.put.Goals as goal

pub returns-in_err-insert-clause-exact : goal.returns-in_err-insert-clause-exact
returns-in_err-insert-clause-exact g c = λ ok.
    let why = c.in_err-insert.ensures.exact (g.R.Rule.in_order _ ok) in
    search rules

pub returns-in_err-insert-clause-rule : goal.returns-in_err-insert-clause-rule
returns-in_err-insert-clause-rule g c = λ ok.
    let why = c.in_err-insert.ensures.exact (g.R.Rule.in_order _ ok) in
    search rules

pub returns-clause-exact : goal.returns-clause-exact
returns-clause-exact g c = λ ok.
    let k = c.args.self.now.store in
    let p = c.args.proposal in
    let opened = c.in_ok-insert.ensures.exact (g.R.Rule.in_order k ok) in
    let became : Meaning → Type 0 = λ m'. Put (meaning_of k) p m' in
    (opened.may, subst became (sym (c.after_put.ensures k ok opened).1) ((g.R.Rule.keeps k ok).puts p opened.may))
