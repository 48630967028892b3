-- The first place at which a test passes, and what an option leads to.
use Rattle.std.proofs.Common.{◌≡◌, ℕ, ◌<◌, ◌≤◌, Bool, false, List, length, get_or, None, Some, Option, arith, MatchOption, MatchResult}
use Rattle.std.specs.Option.{ok_or}
use Rattle.std.specs.List.{position, position_or_len}
use Rattle.std.proofs.lemmas.Grind.{common_steps}
use Rattle.std.proofs.lemmas.List.Sums.{fails_before_first}

-- where none passes, none passes at any place
pub position_none : {X : Type 0} (p : X → Bool) (xs : List X) → position p xs ≡ None → (k : ℕ) (d : X) → k < length xs → p (get_or xs k d) ≡ false
position_none p xs e k d low =
    let past : length xs ≤ position_or_len p xs = grind (arith, common_steps) in fails_before_first p xs k d (omega arith)

-- an answer, or else an error
pub ok_or_cases : {T E : Type 0} (o : Option T) (e : E) (P : T → Type 0) (Q : E → Type 0) → MatchOption o (Q e) P → MatchResult (ok_or o e) P Q
ok_or_cases None e P Q h = h
ok_or_cases (Some x) e P Q h = h
