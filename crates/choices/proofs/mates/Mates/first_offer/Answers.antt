use Rattle.std.proofs.Common.{rules, tests}
use Rattle.std.proofs.lemmas.Iterator.{YieldsList-from_slice}
use Rattle.std.proofs.lemmas.Iterator.Consumers.{YieldsList-from_copied}
use Rattle.std.proofs.lemmas.Iterator.Search.{find_from_yields_List}
use Rattle.choices.specs.Mates.{entry, offered}
use Rattle.choices.proofs.Scans.{first_find}
use Rattle.choices.proofs.mates.Mates.first_offer.Goals as goal

pub returns : goal.returns
returns c =
    let test = offered (entry c.args.self.now) c.args.level c.args.meter in
    first_find test c.args.opened.now c.find.result
    (find_from_yields_List test _ _ c.find.result c.find.ensures.ran (YieldsList-from_copied (YieldsList-from_slice c.args.opened.now cc)) (λ x b q k. search (rules, tests)))
