use Rattle.std.proofs.Common.{rules, tests, unwrap_or, ◌≡◌, ℕ, Option, arith}
use Rattle.settling.proofs.Made.{made_each}
use Rattle.settling.proofs.rows.row_of.Given as given
use Rattle.settling.proofs.rows.row_of.Goals as goal

pub returns : goal.returns
returns g c = λ v hv.
    made_each _ _ c.from_fn.result (λ i y. (x : Option ℕ) × given.F-post g c.args.partner i x × (y ≡ unwrap_or x i)) (λ i y q k. search (rules, tests))
    0 256 c.from_fn.ensures.items.each v 0 (omega arith) (omega arith)
