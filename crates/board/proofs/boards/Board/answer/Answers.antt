use Rattle.std.proofs.Common.{ap, rules}
use Rattle.board.specs.Replaying.{call_of}
use Rattle.board.proofs.Stepping.{named, partner_step}
use Rattle.board.proofs.boards.Board.answer.Goals as goal

pub returns-in_err-partner-in-Partner-clause-step : goal.returns-in_err-partner-in-Partner-clause-step
returns-in_err-partner-in-Partner-clause-step g c = λ s. named (ap call_of c.in-Partner.is) (search rules) (partner_step _ c.in-Partner.meter c.partner.result (c.partner.ensures s))

pub returns-in_ok-partner-in-Partner-clause-step : goal.returns-in_ok-partner-in-Partner-clause-step
returns-in_ok-partner-in-Partner-clause-step g c = λ s. named (ap call_of c.in-Partner.is) (search rules) (partner_step _ c.in-Partner.meter c.partner.result (c.partner.ensures s))
