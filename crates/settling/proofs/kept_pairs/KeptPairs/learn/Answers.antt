use Rattle.std.proofs.Common.{◌≡◌, ℕ, ◌+◌, ◌<◌, sym, subst, arith}
use Rattle.settling.specs.Following.{Learnt, row}
use Rattle.settling.specs.declared.kept_pairs.KeptPairs.{KeptPairs}
use Rattle.settling.proofs.Following.{learn_more, learn_pass}
use Rattle.settling.proofs.kept_pairs.KeptPairs.learn.Goals as goal
use Rattle.settling.proofs.kept_pairs.KeptPairs.learn.Goals.{then-is_lost, else-is_lost}

pub loop-meter-preserved : goal.loop-meter-preserved
loop-meter-preserved c = λ k hl p q f.
    let hi : c.loop-meter.meter < 256 = omega arith in
    let now = c.loop-meter.invariant k hl p q f in
    let P = row c.args.old.now in
    let Q = row c.args.new.now in
    elim c.if-is_lost.branch [
      | then-is_lost w ↦
          subst (λ (m : KeptPairs). Learnt k c.args.level P Q (c.loop-meter.meter + 1) m) (sym w.self-is)
          (learn_more k c.loop-meter.self w.add.new.self c.args.level P Q c.loop-meter.meter hl hi p q now (sym w.if-is_lost.ensures) w.add.ensures.added)
      | else-is_lost w ↦ learn_pass k c.loop-meter.self _ c.args.level P Q c.loop-meter.meter hl hi p q now (sym w.if-is_lost.ensures) w.self-is
    ]

pub returns : goal.returns
returns c = λ k hl p q f.
    let end : c.loop-meter.meter ≡ 256 = omega arith in
    subst (λ (i : ℕ). Learnt k c.args.level (row c.args.old.now) (row c.args.new.now) i c.loop-meter.self) end (c.loop-meter.invariant k hl p q f)
