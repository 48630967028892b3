use Rattle.std.proofs.Common.{arith}
use Rattle.update_text.proofs.Reading.{first_read, last_read, next_read}
use Rattle.update_text.proofs.lines.Row.of.Goals as goal

pub returns-in_err-next-2 : goal.returns-in_err-next-2
returns-in_err-next-2 c =
    let r1 = first_read c.args.line c.new-reader.ensures c.in_ok-next.ensures.steps in
    rw c.from_residual-in_err-next-2.ensures (λ four. omega (arith, last_read r1 c.in_err-next-2.ensures.steps.0))

pub returns-in_err-next-3 : goal.returns-in_err-next-3
returns-in_err-next-3 c =
    let r2 = next_read (first_read c.args.line c.new-reader.ensures c.in_ok-next.ensures.steps) c.in_ok-next-2.ensures.steps in
    rw c.from_residual-in_err-next-3.ensures (λ four. omega (arith, last_read r2 c.in_err-next-3.ensures.steps.0))

pub returns-in_err-next-4 : goal.returns-in_err-next-4
returns-in_err-next-4 c =
    let r2 = next_read (first_read c.args.line c.new-reader.ensures c.in_ok-next.ensures.steps) c.in_ok-next-2.ensures.steps in
    let r3 = next_read r2 c.in_ok-next-3.ensures.steps in
    rw c.from_residual-in_err-next-4.ensures (λ four. omega (arith, last_read r3 c.in_err-next-4.ensures.steps.0))

pub returns-in-Some : goal.returns-in-Some
returns-in-Some c =
    let r2 = next_read (first_read c.args.line c.new-reader.ensures c.in_ok-next.ensures.steps) c.in_ok-next-2.ensures.steps in
    let r5 = next_read (next_read (next_read r2 c.in_ok-next-3.ensures.steps) c.in_ok-next-4.ensures.steps) c.in-Some.ensures.steps in
    λ four. omega (arith, r5.field.there)

pub invariant_of-result : goal.invariant_of-result
invariant_of-result c =
    let r1 = first_read c.args.line c.new-reader.ensures c.in_ok-next.ensures.steps in
    let r2 = next_read r1 c.in_ok-next-2.ensures.steps in
    let r3 = next_read r2 c.in_ok-next-3.ensures.steps in
    let r4 = next_read r3 c.in_ok-next-4.ensures.steps in
    let four = last_read r4 c.in-None.ensures.steps.0 in
    record { each = (four, (r1.field, (r2.field, (r3.field, (r4.field, four))))) }
