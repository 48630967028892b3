use Rattle.std.proofs.Common.{get_or, refl, ◌∙◌, ℕ, rules, tests, arith}
use Rattle.std.proofs.lemmas.Iterator.{YieldsList-from_range, YieldsList-from_map}
use Rattle.std.proofs.lemmas.Iterator.Consumers.{sum_by_from_yields_List, fits_by_from_yields_list}
use Rattle.std.specs.List.{range_with_len}
use Rattle.settling.specs.Counts.{lost}
use Rattle.settling.proofs.Counts.{differing_at, differing_sum, differing_fits, byte_is}
use Rattle.settling.proofs.rows.count_differing.Goals as goal

pub sum-requires-clause-fits : goal.sum-requires-clause-fits
sum-requires-clause-fits c =
    let P : ℕ → ℕ = λ v. get_or c.args.a.now v 0 in
    let Q : ℕ → ℕ = λ v. get_or c.args.b.now v 0 in
    fits_by_from_yields_list (differing_at P Q) (range_with_len 0 256) c.map.result 4294967296
    (YieldsList-from_map _ (differing_at P Q) (YieldsList-from_range 0 256 256 (cc) refl) c.map.ensures.closure (λ x b q k. search (rules, tests, byte_is (lost P Q x), byte_is (lost Q P x))))
    (differing_fits P Q 256 4294967296 (omega arith))

pub returns : goal.returns
returns c =
    let P : ℕ → ℕ = λ v. get_or c.args.a.now v 0 in
    let Q : ℕ → ℕ = λ v. get_or c.args.b.now v 0 in
    sum_by_from_yields_List (differing_at P Q) (range_with_len 0 256) c.map.result c.sum.result c.sum.ensures.ran
    (YieldsList-from_map _ (differing_at P Q) (YieldsList-from_range 0 256 256 (cc) refl) c.map.ensures.closure (λ x b q k. search (rules, tests, byte_is (lost P Q x), byte_is (lost Q P x))))
    ∙ differing_sum P Q 256
