-- A small run, worked out: every kind of call, and each reason to refuse one.
use Rattle.std.specs.Prelude.{List, [], ◌∷◌, Some, None}
use Rattle.proposals.specs.declared.refusals.Reason.TheVariants.{MeterOutsideGroup, AlreadyOpen, KeeperFull, NotOpen, RowTooShort}
use Rattle.matching.specs.Meanings.{Meaning, Lawful, bare, found as by_keeper}
use Rattle.matching.specs.Figures.{proposal, pair}
use Rattle.runs.specs.Runs.{Call, Answer, Event, Run, found as by_board}
use Rattle.runs.specs.Runs.Call.{propose, withdraw, partner, saved, list}
use Rattle.runs.specs.Runs.Answer.{counts, partnered, sum, listed, refused}

infix 70 ◌gives◌
abbrev pub ◌gives◌ : Call → Answer → Event
call gives answer = record { call = call; answer = answer }

-- four proposals in a chain, each a level above the one before: each alters all that is kept
abbrev pub chain : List Event
chain =
    propose (proposal 0 1 1 tt tt tt) gives counts 1 1 ∷ saved gives sum 1 ∷
    propose (proposal 1 2 2 tt tt tt) gives counts 2 1 ∷ saved gives sum 2 ∷
    propose (proposal 2 3 4 tt tt tt) gives counts 3 1 ∷ saved gives sum 5 ∷
    propose (proposal 3 4 8 tt tt tt) gives counts 4 1 ∷ saved gives sum 10 ∷ []

-- what is read then, what is refused, and a withdrawal
abbrev pub afterwards : List Event
afterwards =
    list 384 gives listed 2 (1 ∷ 2 ∷ 2 ∷ 3 ∷ 4 ∷ 8 ∷ []) ∷
    partner 4 gives partnered (Some (3, 8)) ∷
    partner 0 gives partnered None ∷
    partner 5 gives refused (by_board MeterOutsideGroup) ∷
    propose (proposal 0 5 1 tt tt tt) gives refused (by_keeper MeterOutsideGroup) ∷
    propose (proposal 0 1 5 tt tt tt) gives refused (by_keeper AlreadyOpen) ∷
    propose (proposal 0 4 1 tt tt tt) gives refused (by_keeper KeeperFull) ∷
    withdraw (pair 0 4 tt) gives refused (by_keeper NotOpen) ∷
    list 5 gives refused (by_board RowTooShort) ∷
    withdraw (pair 3 4 tt) gives counts 4 1 ∷ saved gives sum 5 ∷ []

-- over a keeper of five meters with room for four proposals
abbrev pub Example : Type 0
Example = Lawful (bare 5 4) × ((m t : Meaning) × Run (bare 5 4) chain m × Run m afterwards t)
