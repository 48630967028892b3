use Rattle.std.proofs.Common.{◌<◌, ◌≤◌, replicate, ap, ⊎_elim}
use lib.ListN.{length-replicate}
use Rattle.std.proofs.lemmas.List.{get_or-replicate, get_or_past}
use Rattle.std.proofs.lemmas.Bool.{cases_lt}
use Rattle.settling.specs.Kept.{height, level_at}
use Rattle.settling.proofs.Edits.{begun}
use Rattle.settling.proofs.kept_pairs.KeptPairs.new.Goals as goal

pub returns : goal.returns
returns c =
    begun record { choice = c.new.result; heights = replicate 256 0 } c.new.ensures
    (λ v. ⊎_elim
    (λ (h : v < 256). ap (λ n. height (level_at n)) (get_or-replicate 256 v 0 0 h))
    (λ (h : 256 ≤ v). ap (λ n. height (level_at n)) (get_or_past (replicate 256 0) v 0 (simp length-replicate h)))
    (cases_lt v 256))
