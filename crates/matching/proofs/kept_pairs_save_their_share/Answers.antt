use Rattle.matching.proofs.Share.{share}
use Rattle.matching.proofs.kept_pairs_save_their_share.Goals as goal

pub returns : goal.returns
returns c = share
