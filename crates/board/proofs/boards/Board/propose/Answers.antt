use Rattle.std.proofs.Common.{ℕ, sym, subst}
use Rattle.board.specs.Calls.{Changes, Refreshed}
use Rattle.board.specs.Serving.{Serves}
use Rattle.board.proofs.Changing.{serves, put_changes, proposed}
use Rattle.board.proofs.boards.Board.propose.Goals as goal

pub returns : goal.returns
returns g c =
    let keeper = c.args.self.now.keeper in
    let m = g.K.Reader.meaning keeper in
    let m' = g.K.Reader.meaning c.put.new.self in
    let h = c.in_ok-put.ensures in
    let done : Serves (g.K.Reader.sound keeper) m c.args.self.now.kept → Refreshed m m' c.refresh.new.kept c.refresh.result =
    λ s. c.refresh.ensures m c.level.ensures.bound s.copies (h.sound s.keeper)
    (subst (λ (l : ℕ). Changes m l m') (sym c.level.ensures.value) (put_changes m m' c.args.proposal s.lawful (h.exact s.keeper).1))
    in
    record {
      serves = λ s. serves (g.K.Reader.sound c.put.new.self) m' c.refresh.new.kept (h.sound s.keeper) (h.exact s.keeper).1.lawful (done s).copies;
      exact = λ s. proposed m m' c.args.proposal c.refresh.result (h.exact s.keeper) (done s).counted;
      refused = tt;
    }
