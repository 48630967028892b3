use Rattle.std.proofs.Common.{Some, None, ◌∙◌}
use Rattle.board.proofs.Answering.{partner_told}
use Rattle.board.proofs.boards.Board.kept_pair.Goals as goal

pub returns-in_err-saving : goal.returns-in_err-saving
returns-in_err-saving g c = λ serves.
    c.from_residual-in_err-saving.ensures ∙ partner_told serves c.args.meter c.in_ok-other.other None c.in_ok-other.ensures.shown (c.in_err-saving.ensures serves.keeper)

pub returns : goal.returns
returns g c = λ serves.
    partner_told serves c.args.meter c.in_ok-other.other (Some c.in_ok-saving.saving) c.in_ok-other.ensures.shown (c.in_ok-saving.ensures serves.keeper)
