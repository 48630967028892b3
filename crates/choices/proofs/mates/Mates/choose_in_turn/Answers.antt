use Rattle.choices.proofs.Turns.{turn_more}
use Rattle.choices.proofs.mates.Mates.choose_in_turn.Goals as goal

pub loop-proposal-preserved : goal.loop-proposal-preserved
loop-proposal-preserved c = λ C s smallC small.
    turn_more _ _ c.args.level c.loop-proposal.proposal-index C c.args.opened.now _ c.loop-proposal-test.true c.proposal-item.is smallC small
    (c.loop-proposal.invariant C s smallC small) c.consider.ensures
