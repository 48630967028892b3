use Rattle.std.proofs.Common.{List, take}
use Rattle.proposals.specs.declared.proposals.Proposal.{Proposal}
use Rattle.choices.specs.Mates.{entry}
use Rattle.choices.specs.Showing.{Shows, Small, chosen_in_turn}
use Rattle.choices.proofs.mates.Mates.choose_in_turn.Given as goal

abbrev pub invariant-loop-proposal : goal.invariant-loop-proposal
invariant-loop-proposal l =
    (C : List Proposal) → Shows (entry l.initial.self) C → Small C → Small l.opened →
    Shows (entry l.self) (chosen_in_turn l.level C (take l.proposal-index l.opened))
