use Rattle.std.proofs.Common.{sym, ◌∙◌}
use Rattle.choices.specs.Mates.{entry}
use Rattle.settling.specs.Following.{row}
use Rattle.settling.proofs.Counts.{differing_same}
use Rattle.settling.proofs.Following.{old_matching, forgotten_none, turned, followed}
use Rattle.settling.proofs.kept_pairs.KeptPairs.follow.Goals as goal

pub returns : goal.returns
returns c =
    let k = c.args.self.now in
    let l = c.args.level in
    let P = row c.mates-old.result in
    let Q = row c.args.new.now in
    record {
      follows = λ ok hl q.
          let is = c.mates-old.ensures hl in
          let p = old_matching k l P Q hl ok is in
          followed k l P Q hl ok is q c.learn.new.self
          (c.learn.ensures k hl p q (turned k l P Q hl ok is q c.forget.new.self (c.forget.ensures k hl p (forgotten_none k l P Q hl ok is))));
      count = λ hl old is. c.count_differing.ensures ∙ differing_same P (row old) Q 256 (λ v hv. c.mates-old.ensures hl v hv ∙ sym (is v hv));
      entries = λ hl. c.count_differing.ensures ∙ differing_same P (entry k.choice l) Q 256 (c.mates-old.ensures hl);
    }
