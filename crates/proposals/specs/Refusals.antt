-- The reasons to refuse, each with its number, and what a refusal of this layer is.
use Rattle.std.specs.Prelude.{ℕ}
use Rattle.proposals.specs.declared.refusals.Refusal.{Refusal}
use Rattle.proposals.specs.declared.refusals.Layer.TheVariants as layer
use Rattle.proposals.specs.declared.refusals.Reason.{Reason}
use Rattle.proposals.specs.declared.refusals.Reason.TheVariants.{SizeOutOfRange, EqualMeters, SavingOutOfRange, MeterOutsideGroup, AlreadyOpen, KeeperFull, NotOpen, RowTooShort, TextTooLong, BadNamesLine, NoLineFeed, NotFourFields, UnknownAct, BadField}

abbrev pub number_of : Reason → ℕ
number_of SizeOutOfRange = 1
number_of EqualMeters = 2
number_of SavingOutOfRange = 3
number_of MeterOutsideGroup = 4
number_of AlreadyOpen = 5
number_of KeeperFull = 6
number_of NotOpen = 7
number_of RowTooShort = 8
number_of TextTooLong = 9
number_of BadNamesLine = 10
number_of NoLineFeed = 11
number_of NotFourFields = 12
number_of UnknownAct = 13
number_of BadField = 14

-- found by this layer
abbrev pub found : Reason → Refusal
found reason = record { reason = reason; layer = layer.Proposal }
