use Rattle.matching.proofs.Order.{one_answer}
use Rattle.matching.proofs.a_choice_is_settled_in_one_way.Goals as goal

pub returns : goal.returns
returns c = one_answer
