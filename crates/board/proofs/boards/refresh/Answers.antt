use Rattle.std.proofs.Common.{◌≡◌, ℕ, ◌<◌, eqb, sym, refl, ◌∙◌}
use Rattle.std.proofs.lemmas.Bool.{eq-eqb, cond-true}
use Rattle.choices.specs.Mates.{entry}
use Rattle.settling.specs.Following.{row}
use Rattle.board.proofs.Copying.{matching, follows_change}
use Rattle.board.proofs.Counting.{counts_kept, counts_choice}
use Rattle.board.proofs.boards.refresh.Goals as goal

pub returns : goal.returns
returns g c m hl copies sound ch =
    let k = c.args.kept.now in
    let k' = c.follow-came_or_went.new.self in
    let m' = g.R.Reader.meaning c.args.reader.now in
    let l = c.args.level in
    let T : ℕ → ℕ = row c.mates_of.result in
    let is = c.mates_of.ensures sound in
    let f = c.follow-came_or_went.ensures.follows copies.sound hl (matching m' ch.after l T is) in
    let copies' = follows_change m m' l k k' T ch copies is f in
    let here : (v : ℕ) → v < 256 → T v ≡ entry k'.choice l v =
    λ v hv. sym (f.choice l v hl hv ∙ cond-true (eqb l l) (T v) (entry k.choice l v) (eq-eqb l l refl))
    in
    record {
      copies = copies';
      counted = record {
        kept =
            c.count_differing.ensures
            ∙ counts_kept m m' l k k' ch copies copies' (row c.partners-before.result) (row c.partners-after.result)
            c.partners-before.ensures c.partners-after.ensures;
        choice =
            c.follow-came_or_went.ensures.entries hl
            ∙ counts_choice m m' l k k' ch copies copies' hl (entry k.choice l) T (λ v hv. refl) here;
      };
    }
