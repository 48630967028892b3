-- The worked figures, by computing.
use Rattle.std.proofs.Common.{refl}
use Rattle.proposals.specs.Levels.{level_of}
use Rattle.matching.specs.Matching.{has, shares, same, kept_from, kept}
use Rattle.matching.specs.Rules.{blocked, offers}
use Rattle.matching.specs.Figures.{Figures}

pub figures : Figures
unfolding level_of has shares same kept_from kept blocked offers
figures =
    record {
      level_of_1 = refl;
      level_of_3 = refl;
      level_of_4 = refl;
      level_of_524287 = refl;
      level_of_524288 = refl;
      level_of_1048575 = refl;
      nothing_open = λ size capacity. refl;
      chain_saves = refl;
      chain_alters = refl;
      chain_cut_saves = refl;
      chain_cut_alters = refl;
      equals_save_patiently = refl;
      middle_gone_saves = refl;
      middle_gone_alters = refl;
      middle_gone_moves = refl;
      rejoined_keeps = refl;
      equals_save_in_order = refl;
      equals_alter_in_order = refl;
      equals_move_in_order = refl;
      two_let_go_keeps = refl;
      two_let_go_saves = refl;
      two_let_go_alters = refl;
    }
