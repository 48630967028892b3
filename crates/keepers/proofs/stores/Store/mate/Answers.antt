use Rattle.std.proofs.Common.{◌∙◌}
use Rattle.choices.specs.Mates.{entry}
use Rattle.keepers.specs.Meant.{meaning_of}
use Rattle.choices.proofs.Answering.{mate_is}
use Rattle.keepers.proofs.stores.Store.mate.Goals as goal

pub returns : goal.returns
returns c = λ ok.
    c.mate.ensures ∙ mate_is (meaning_of c.args.self.now) ok.lawful (entry c.args.self.now.choice) ok.shows c.args.meter c.args.level
