use Rattle.std.proofs.Common.{◌≡◌, ◌∙◌, rules}
use Rattle.board.proofs.Answering.{above, end_told}
use Rattle.board.proofs.boards.Board.higher_end.Goals as goal

pub returns : goal.returns
returns g c = λ serves.
    let is : c.filter.result ≡ above c.args.meter c.kept_pair.result = search rules in is ∙ end_told serves c.args.meter c.kept_pair.result (c.kept_pair.ensures serves)
