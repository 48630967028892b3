use Rattle.std.proofs.Common.{◌≡◌, ℕ, ◌+◌, ◌-◌, ◌++◌, drop, length, ap, ◌∙◌, subst, arith, length-take}
use Rattle.combining.specs.Steps.{DownTo}
use Rattle.combining.proofs.Steps.{begun, ended}
use Rattle.combining.proofs.combine.Goals as goal

pub loop-level-init : goal.loop-level-init
loop-level-init g c = λ sound.
    let n = c.size.ensures sound in
    begun (g.R.Reader.meaning c.args.reader.now) _ c.free.new.partners (omega arith) (λ v lt. c.free.ensures v (omega (arith, n, length-take {A = ℕ})))

pub loop-level-preserved : goal.loop-level-preserved
loop-level-preserved g c = λ sound.
    let m = g.R.Reader.meaning c.args.reader.now in
    let l = c.loop-level in
    let e : l.level ≡ l.level - 1 + 1 = omega arith in
    let n = c.size.ensures sound in
    let long : length l.partners ≡ m.size = omega (arith, n, length-take {A = ℕ}) in
    c.keep_level.ensures sound long (subst (λ (k : ℕ). DownTo m k l.partners) e (l.invariant sound))

pub returns-clause-exact : goal.returns-clause-exact
returns-clause-exact g c = λ sound.
    let reader = c.args.reader.now in
    let m = g.R.Reader.meaning reader in
    let l = c.loop-level in
    let n : c.meters-meters.result ≡ m.size = c.meters-meters.ensures ∙ c.size.ensures sound in
    let e : l.level ≡ 0 = omega arith in
    record {
      enough = omega arith;
      written = ap (λ k. l.partners ++ drop k c.args.row.now) n ∙ ap (λ ps. ps ++ drop m.size c.args.row.now)
          (ended m l.partners (g.R.Reader.lawful reader sound) (omega (arith, n, length-take {A = ℕ})) (subst (λ (k : ℕ). DownTo m k l.partners) e (l.invariant sound)));
    }
