use Rattle.std.proofs.Common.{◌*◌, min, length, take, replicate, string_bytes, refl, ap, ◌∙◌}
use Rattle.std.proofs.lemmas.Result.{IfOk-weaker}
use Rattle.matching.specs.Meanings.{bare}
use Rattle.keepers.specs.Meant.{meaning_of}
use Rattle.listing.proofs.Writing.{in_front, reported}
use Rattle.listing.proofs.report_over.Goals as goal

pub returns : goal.returns
returns c =
    let room = min (length c.args.table.now) 4096 in
    let opens = c.open-board.ensures.serves c.new.ensures.order in
    let serves = c.feed-fed.ensures.sound opens in
    let m = meaning_of c.feed-fed.new.recipient.keeper.store in
    let before = meaning_of c.open-board.result.keeper.store in
    let same = ap (λ keeper. meaning_of keeper.store) c.open-board.ensures.keeper in
    let first = same ∙ c.new.ensures.means ∙ ap (λ n. bare n room) c.nearest.ensures in
    let fed = c.feed-fed.ensures.fed opens in
    let k = c.unwrap-pairs.result in
    let row = c.list.new.row in
    let list = in_front m (replicate 384 0) serves.lawful refl c.list.result k row in
    let numbers = list (c.list.ensures.answer serves) (c.list.ensures.written serves) c.unwrap-pairs.ensures in
    IfOk-weaker c.write.result _ _
    (λ s is. reported room c.args.text.now (string_bytes s) (take (3 * k) row) before m c.feed-fed.result first fed numbers is)
    c.write.ensures
