use Rattle.matching.proofs.Share.{share_of_two}
use Rattle.matching.proofs.kept_pairs_save_an_eighth.Goals as goal

pub returns : goal.returns
returns c = share_of_two
