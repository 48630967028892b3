use Rattle.keepers.proofs.PatientCalls.{put_done}
use Rattle.keepers.proofs.patience.PatienceRule.after_put.Goals as goal

pub returns : goal.returns
returns c = λ k ok opened. put_done k c.args.store.now c.join_if_free.new.self c.args.proposal opened c.join_if_free.ensures.joined ok
