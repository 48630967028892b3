use Rattle.std.proofs.Common.{◌≡◌, ◌-◌, ◌<◌, ◌≤◌, min, length, take, refl, ap, ◌∙◌, rules, arith, length-take}
use borrow.Rule.Slice.PartMut.{put_mid, same_len_mid}
use Rattle.std.specs.List.{remove}
use Rattle.keepers.specs.Tables.{opened_in, Stands}
use Rattle.keepers.proofs.Edits.{gap_for, removed_is}
use Rattle.keepers.proofs.Found.{taken_is}
use Rattle.keepers.proofs.Moves.{take_out}
use Rattle.keepers.proofs.tables.OpenTable.remove.Goals as goal

pub returns-in_default-clause-exact : goal.returns-in_default-clause-exact
returns-in_default-clause-exact c = λ up.
    (search rules, gap_for _ _ _ _ ((rw c.opened.ensures at c.in_default.ensures.exact) up))

pub returns-clause-exact : goal.returns-clause-exact
returns-clause-exact c = λ up.
    let xs = c.args.self.now.table.now in
    let n = c.len-len.result in
    let i = c.in-Ok.at in
    let r = c.rotate_left.new.self in
    let ys = put_mid i (n - i) xs r in
    let s : Stands (opened_in c.args.self.now) c.args.pair.low c.args.pair.high i = (rw c.opened.ensures at c.in-Ok.ensures.exact) up in
    let lt : i < n = let w = simp length-take at s.within in omega arith in
    let le : n ≤ length xs = omega arith in
    let long : length ys ≡ length xs = same_len_mid i (n - i) xs r c.rotate_left.ensures.len in
    let top : min (n - 1) (min (length ys) 4096) ≡ n - 1 = omega arith in
    record {
      was = taken_is xs _ i _ _ _ up s;
      opened = ap (λ k. take k ys) top ∙ take_out xs _ r i n lt le refl c.rotate_left.ensures.after
          ∙ ap (λ k. remove (take k xs) i) c.len-len.ensures ∙ removed_is _ _ _ i up s;
      capacity = ap (λ k. min k 4096) long;
    }
