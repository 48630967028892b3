use Rattle.std.proofs.Common.{ap, sym, Some, ◌∙◌}
use Rattle.keepers.specs.Tables.{opened_in}
use Rattle.keepers.proofs.Edits.{first_at}
use Rattle.keepers.proofs.Found.{place}
use Rattle.keepers.proofs.Places.{read_is}
use Rattle.keepers.proofs.tables.OpenTable.get.Goals as goal

pub returns-in_err-at : goal.returns-in_err-at
returns-in_err-at c = λ up.
    let found = place _ _ _ _ ((rw c.opened-opened.ensures at c.find.ensures.exact) up) in
    c.from_residual.ensures ∙ sym (rw (← c.in_err-at.ensures.value) at found)

pub returns : goal.returns
returns c = λ up.
    let found = place _ _ _ _ ((rw c.opened-opened.ensures at c.find.ensures.exact) up) in
    let stands = rw (← c.in_ok-at.ensures.value) at found in
    let is = rw c.opened-opened.ensures at c.index-opened-at.is in
    sym (first_at (opened_in c.args.self.now) _ _ c.in_ok-at.at up stands ∙ ap (λ p. Some p) (read_is _ _ _ stands.within is))
