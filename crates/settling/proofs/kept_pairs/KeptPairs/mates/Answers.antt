use Rattle.std.proofs.Common.{◌≡◌, unwrap_or, ap, ◌∙◌, rules}
use Rattle.choices.specs.Mates.{entry, mate_shown}
use Rattle.settling.proofs.Tables.{shown_or}
use Rattle.settling.proofs.kept_pairs.KeptPairs.mates.Goals as goal

pub returns : goal.returns
returns c = λ hl v hv.
    let h = c.row_of.ensures v hv in
    let shown : h.0 ≡ mate_shown (entry c.args.self.now.choice) v c.args.level = search (rules, h.1) in
    h.2 ∙ ap (λ o. unwrap_or o v) shown ∙ shown_or (entry c.args.self.now.choice) v c.args.level hv hl
