use Rattle.std.proofs.Common.{◌≡◌, ◌+◌, ◌-◌, ◌<◌, ◌≤◌, min, length, take, set, refl, ap, ◌∙◌, inr, rules, arith, length-set, length-take}
use borrow.Rule.Slice.PartMut.{put_mid, same_len_mid}
use Rattle.std.specs.List.{insert}
use Rattle.keepers.specs.Tables.{opened_in, Gap}
use Rattle.keepers.proofs.Edits.{gap_for, inserted_is}
use Rattle.keepers.proofs.Moves.{put_in}
use Rattle.keepers.proofs.tables.OpenTable.insert.Goals as goal

pub returns-then-len-capacity-clause-exact : goal.returns-then-len-capacity-clause-exact
returns-then-len-capacity-clause-exact c = λ up.
    let g = (rw (c.opened.ensures, c.pair.ensures.0, c.pair.ensures.1) at c.in-Err.ensures.exact) up in
    record { why = inr (search rules, gap_for _ _ _ _ g, omega arith) }

pub returns-clause-exact : goal.returns-clause-exact
returns-clause-exact c = λ up.
    let xs = c.args.self.now.table.now in
    let n = c.len-len.result in
    let i = c.in-Err.at in
    let p = c.args.proposal in
    let r = c.rotate_right.new.self in
    let ys = put_mid i (n + 1 - i) (set xs n p) r in
    let gap : Gap (opened_in c.args.self.now) p.low p.high i =
    (rw (c.opened.ensures, c.pair.ensures.0, c.pair.ensures.1) at c.in-Err.ensures.exact) up
    in
    let le : i ≤ n = let w = simp length-take at gap.within in omega arith in
    let lt : n < length xs = omega arith in
    let long : length ys ≡ length xs = same_len_mid i (n + 1 - i) (set xs n p) r c.rotate_right.ensures.len ∙ length-set _ _ _ in
    let top : min (n + 1) (min (length ys) 4096) ≡ n + 1 = omega arith in
    record {
      new = gap_for _ _ _ _ gap;
      room = omega arith;
      opened = ap (λ k. take k ys) top ∙ put_in xs _ r i n p le lt refl c.rotate_right.ensures.after
          ∙ ap (λ k. insert (take k xs) i p) c.len-len.ensures ∙ inserted_is _ p i gap;
      capacity = ap (λ k. min k 4096) long;
    }
