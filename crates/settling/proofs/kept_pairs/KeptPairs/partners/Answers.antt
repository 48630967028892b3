use Rattle.std.proofs.Common.{◌≡◌, unwrap_or, ap, ◌∙◌, rules}
use Rattle.settling.specs.Kept.{partner_shown}
use Rattle.settling.proofs.kept_pairs.KeptPairs.partners.Goals as goal

pub returns : goal.returns
returns c = λ v hv.
    let h = c.row_of.ensures v hv in
    let shown : h.0 ≡ partner_shown c.args.self.now v = search (rules, h.1) in
    h.2 ∙ ap (λ o. unwrap_or o v) shown
