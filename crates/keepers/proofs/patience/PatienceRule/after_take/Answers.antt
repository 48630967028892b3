use Rattle.std.proofs.Common.{rules}
use Rattle.keepers.proofs.PatientCalls.{rejoined_at, take_done, retake_done}
use Rattle.keepers.proofs.patience.PatienceRule.after_take.Goals as goal

pub returns-then-part_if_mates : goal.returns-then-part_if_mates
returns-then-part_if_mates c = λ k pair ok closed.
    let choice = c.part_if_mates.new.self in
    let half = c.rejoin.new.self in
    let whole = c.rejoin-then-part_if_mates.new.self in
    let low = rejoined_at _ half _ _ _ _ (search rules) c.level-level.ensures.value c.rejoin.ensures in
    let high = rejoined_at half whole _ _ _ _ (search rules) c.level-level.ensures.value c.rejoin-then-part_if_mates.ensures in
    retake_done k c.args.store.now choice pair c.args.closed _ closed c.part_if_mates.ensures.parted ok half whole low high c.if-part_if_mates.true

pub returns-else-part_if_mates : goal.returns-else-part_if_mates
returns-else-part_if_mates c = λ k pair ok closed.
    take_done k c.args.store.now c.part_if_mates.new.self pair c.args.closed _ closed c.part_if_mates.ensures.parted ok c.if-part_if_mates.false
