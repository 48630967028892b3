-- What a keeper with room for one proposal means.
use Rattle.std.specs.Option.{option_to_list}
use Rattle.matching.specs.Meanings.{Meaning}
use Rattle.trials.specs.declared.lone.Lone.{Lone}

-- what it holds is open and chosen
abbrev pub held : Lone → Meaning
held k = record { size = k.size.meters; capacity = 1; opened = option_to_list k.slot; chosen = option_to_list k.slot }
