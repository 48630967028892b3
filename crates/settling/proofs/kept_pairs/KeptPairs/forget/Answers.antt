use Rattle.std.proofs.Common.{◌≡◌, ℕ, ◌+◌, ◌<◌, sym, subst, arith}
use Rattle.settling.specs.Following.{Forgotten, row}
use Rattle.settling.specs.declared.kept_pairs.KeptPairs.{KeptPairs}
use Rattle.settling.proofs.Following.{forget_more, forget_pass}
use Rattle.settling.proofs.kept_pairs.KeptPairs.forget.Goals as goal
use Rattle.settling.proofs.kept_pairs.KeptPairs.forget.Goals.{then-is_lost, else-is_lost}

pub loop-meter-preserved : goal.loop-meter-preserved
loop-meter-preserved c = λ k hl p f.
    let hi : c.loop-meter.meter < 256 = omega arith in
    let now = c.loop-meter.invariant k hl p f in
    let P = row c.args.old.now in
    let Q = row c.args.new.now in
    elim c.if-is_lost.branch [
      | then-is_lost w ↦
          subst (λ (m : KeptPairs). Forgotten k c.args.level P Q (c.loop-meter.meter + 1) m) (sym w.self-is)
          (forget_more k c.loop-meter.self w.remove.new.self c.args.level P Q c.loop-meter.meter hl hi p now (sym w.if-is_lost.ensures) w.remove.ensures.removed)
      | else-is_lost w ↦ forget_pass k c.loop-meter.self _ c.args.level P Q c.loop-meter.meter hl hi p now (sym w.if-is_lost.ensures) w.self-is
    ]

pub returns : goal.returns
returns c = λ k hl p f.
    let end : c.loop-meter.meter ≡ 256 = omega arith in
    subst (λ (i : ℕ). Forgotten k c.args.level (row c.args.old.now) (row c.args.new.now) i c.loop-meter.self) end (c.loop-meter.invariant k hl p f)
