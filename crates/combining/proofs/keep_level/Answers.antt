use Rattle.std.proofs.Common.{◌≡◌, ℕ, Some, length, ◌∙◌, sym, subst, arith}
use Rattle.combining.specs.Steps.{Reached}
use Rattle.combining.proofs.Steps.{descended, skipped, kept_free}
use Rattle.combining.proofs.keep_level.Goals as goal
use Rattle.combining.proofs.keep_level.Goals.{in-Some+then-meter-mate+then-mate-meters, in_default, in_default-via-in-None-1, in_default-via-in-Some+else-meter-mate, in_default-via-in-Some+then-meter-mate+else-mate-meters}

pub loop-meter-init : goal.loop-meter-init
loop-meter-init g c = λ sound n h.
    let reader = c.args.reader.now in
    descended (g.R.Reader.meaning reader) c.args.level c.args.partners.now (g.R.Reader.lawful reader sound) h

pub loop-meter-preserved : goal.loop-meter-preserved
loop-meter-preserved g c = λ sound n h.
    let reader = c.args.reader.now in
    let m = g.R.Reader.meaning reader in
    let lawful = g.R.Reader.lawful reader sound in
    let l = c.loop-meter in
    let long : length l.partners ≡ m.size = omega (arith, n) in
    let before = l.invariant sound long h in
    elim c.match-mate.branch [
      | in-Some+then-meter-mate+then-mate-meters w ↦
          kept_free m lawful c.args.level l.partners c.match-mate.partners l.meter w.in-Some.mate
          (sym (w.in-Some.ensures sound)) (omega arith) (omega arith) (w.partners-is ∙ w.keep.ensures) before
      | in_default w ↦
          skipped m lawful c.args.level l.partners c.match-mate.partners l.meter
          (λ v e lt le.
          let i : c.mate.result ≡ Some v = c.mate.ensures sound ∙ e in
          elim w.in_default.branch [
            | in_default-via-in-None-1 x ↦ cc
            | in_default-via-in-Some+else-meter-mate x ↦ let same : x.in-Some.mate ≡ v = cc (x.in-Some.is, i) in omega arith
            | in_default-via-in-Some+then-meter-mate+else-mate-meters x ↦ let same : x.in-Some.mate ≡ v = cc (x.in-Some.is, i) in omega arith
          ])
          w.partners-is before
    ]

pub returns : goal.returns
returns g c = λ sound n h.
    let m = g.R.Reader.meaning c.args.reader.now in
    let l = c.loop-meter in
    let e : l.meter ≡ m.size = omega arith in
    subst (λ (k : ℕ). Reached m c.args.level k l.partners) e (l.invariant sound (l.auto.partners ∙ n) h)
