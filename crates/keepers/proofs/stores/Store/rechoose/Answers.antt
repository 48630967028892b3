use Rattle.std.proofs.Common.{List, sym, refl, subst}
use Rattle.proposals.specs.declared.proposals.Proposal.{Proposal}
use Rattle.choices.specs.Mates.{entry}
use Rattle.choices.specs.Showing.{Shows, Small, elsewhere, chosen_in_turn}
use Rattle.choices.proofs.Clearing.{elsewhere_in, shows_cleared}
use Rattle.keepers.proofs.stores.Store.rechoose.Goals as goal

pub returns : goal.returns
returns c = record {
  size = refl;
  table = refl;
  choice = λ hl C s small open-small.
      let l = c.args.level in
      let is = c.opened.ensures in
      let P : List Proposal → Type 0 = λ ps. Shows (entry c.choose_in_turn.new.self) (chosen_in_turn l (elsewhere l C) ps) in
      let Q : List Proposal → Type 0 = λ ps. Small ps in
      subst P is
      (c.choose_in_turn.ensures (elsewhere l C) (shows_cleared _ _ l C s small (c.clear.ensures.cleared hl)) (λ p m. small p (elsewhere_in l C p m).0) (subst Q (sym is) open-small));
}
