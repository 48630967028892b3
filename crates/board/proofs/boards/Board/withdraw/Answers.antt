use Rattle.std.proofs.Common.{◌≡◌, ℕ, unwrap_or, sym, ap, ◌∙◌, subst}
use Rattle.proposals.specs.Levels.{level_of}
use Rattle.matching.specs.Matching.{level}
use Rattle.matching.specs.Meanings.{ratio}
use Rattle.board.specs.Calls.{Changes, Refreshed}
use Rattle.board.specs.Serving.{Serves}
use Rattle.board.proofs.Changing.{serves, take_changes, taken_level, withdrawn}
use Rattle.board.proofs.boards.Board.withdraw.Goals as goal

pub returns : goal.returns
returns g c =
    let keeper = c.args.self.now.keeper in
    let m = g.K.Reader.meaning keeper in
    let m' = g.K.Reader.meaning c.take.new.self in
    let h = c.in_ok-take.ensures in
    let done : Serves (g.K.Reader.sound keeper) m c.args.self.now.kept → Refreshed m m' c.refresh.new.kept c.refresh.result =
    λ s.
    let t = (h.exact s.keeper).1 in
    let l : c.level.result ≡ level ratio t.0 =
    c.level.ensures.value
    ∙ ap (level_of ratio) (c.unwrap_or-saving.ensures ∙ ap (λ o. unwrap_or o 0) (c.saving.ensures s.keeper))
    ∙ taken_level m m' c.args.pair s.lawful t
    in
    c.refresh.ensures m c.level.ensures.bound s.copies (h.sound s.keeper)
    (subst (λ (l : ℕ). Changes m l m') (sym l) (take_changes m m' c.args.pair s.lawful t))
    in
    record {
      serves = λ s. serves (g.K.Reader.sound c.take.new.self) m' c.refresh.new.kept (h.sound s.keeper) (h.exact s.keeper).1.3.lawful (done s).copies;
      exact = λ s. withdrawn m m' c.args.pair c.refresh.result (h.exact s.keeper) (done s).counted;
      refused = tt;
    }
