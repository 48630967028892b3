use Rattle.std.proofs.Common.{◌≡◌, Some, sym, ◌∙◌, arith}
use Rattle.matching.specs.Meanings.{saving_of}
use Rattle.combining.proofs.Reading.{within, higher, saves, none, made, made_pair}
use Rattle.combining.proofs.kept_at.Goals as goal

pub returns-in_err-partner : goal.returns-in_err-partner
returns-in_err-partner g c = λ sound (rest, is).
    let m = g.R.Reader.meaning c.args.reader.now in
    let lawful = g.R.Reader.lawful c.args.reader.now sound in
    let row = c.args.row.now in
    c.from_residual.ensures ∙ none m lawful row rest is c.args.meter (λ p i low. omega (arith, within m lawful row rest is c.args.meter p i low, c.in_err-partner.ensures.lookup.3))

pub returns-then-partner-meter : goal.returns-then-partner-meter
returns-then-partner-meter g c = λ sound (rest, is).
    let m = g.R.Reader.meaning c.args.reader.now in
    let lawful = g.R.Reader.lawful c.args.reader.now sound in
    let row = c.args.row.now in
    let at = c.in_ok-partner.ensures.lookup.3.1 0 in
    none m lawful row rest is c.args.meter (λ p i low. omega (arith, higher m lawful row rest is c.args.meter p i low, at, p.apart))

pub returns-in_err-saving : goal.returns-in_err-saving
returns-in_err-saving g c = λ sound (rest, is).
    let m = g.R.Reader.meaning c.args.reader.now in
    let lawful = g.R.Reader.lawful c.args.reader.now sound in
    let row = c.args.row.now in
    let at = c.in_ok-partner.ensures.lookup.3.1 0 in
    let pair = made_pair c.args.meter c.in_ok-partner.field-0.now c.new.result c.in_ok-ok.field-0 (sym c.ok.ensures.value ∙ c.in_ok-ok.was) c.new.ensures in
    let untold = c.in_err-saving.ensures sound in
    c.from_residual-in_err-saving.ensures ∙ none m lawful row rest is c.args.meter (λ p i low.
    let told = saves m lawful row rest is c.args.meter p i low in
    let first : c.in_ok-ok.field-0.low ≡ c.args.meter = omega (arith, pair.low) in
    let second : c.in_ok-ok.field-0.high ≡ p.high = omega (arith, pair.high, at, higher m lawful row rest is c.args.meter p i low) in
    cc)

pub returns : goal.returns
returns g c = λ sound (rest, is).
    let m = g.R.Reader.meaning c.args.reader.now in
    let lawful = g.R.Reader.lawful c.args.reader.now sound in
    let row = c.args.row.now in
    let partner = c.in_ok-partner.field-0.now in
    let at = c.in_ok-partner.ensures.lookup.3.1 0 in
    let pair = made_pair c.args.meter c.in_ok-partner.field-0.now c.new.result c.in_ok-ok.field-0 (sym c.ok.ensures.value ∙ c.in_ok-ok.was) c.new.ensures in
    let first : c.in_ok-ok.field-0.low ≡ c.args.meter = omega (arith, pair.low) in
    let second : c.in_ok-ok.field-0.high ≡ partner = omega (arith, pair.high) in
    let told : saving_of m c.args.meter partner ≡ Some c.in_ok-saving.saving = rw (← first, ← second) (sym (c.in_ok-saving.ensures sound)) in
    c.ok-2.ensures.value ∙ made m lawful row rest is c.args.meter partner c.in_ok-saving.saving (omega arith) (sym at) told _ c.new-2.ensures
