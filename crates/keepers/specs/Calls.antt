-- What put and take answer and leave, for every keeper.
use Rattle.std.specs.Prelude.{◌≡◌, Some, None, Result, MatchResult}
use Rattle.proposals.specs.declared.proposals.Proposal.{Proposal}
use Rattle.proposals.specs.declared.pairs.Pair.{Pair}
use Rattle.proposals.specs.declared.refusals.Refusal.{Refusal}
use Rattle.matching.specs.Meanings.{Meaning, put_refusal, take_refusal, Put, Take}

-- accepted, the proposal is open and at most its level is chosen anew; refused, for the first reason there is, nothing changes
abbrev pub Puts : Meaning → Proposal → Result (Unit {0}) Refusal → Meaning → Type 0
Puts m p r m' = MatchResult r (λ _. (put_refusal m p ≡ None) × Put m p m') (λ e. (put_refusal m p ≡ Some e) × (m' ≡ m))

-- accepted, the pair is no longer open and at most its level is chosen anew; refused, for the first reason there is, nothing changes
abbrev pub Takes : Meaning → Pair → Result (Unit {0}) Refusal → Meaning → Type 0
Takes m pair r m' = MatchResult r (λ _. (take_refusal m pair ≡ None) × Take m pair m') (λ e. (take_refusal m pair ≡ Some e) × (m' ≡ m))

-- the same by a rule that says which choice follows
abbrev pub PutsBy : (Meaning → Proposal → Meaning) → Meaning → Proposal → Result (Unit {0}) Refusal → Meaning → Type 0
PutsBy rule m p r m' = MatchResult r (λ _. (put_refusal m p ≡ None) × (m' ≡ rule m p)) (λ e. (put_refusal m p ≡ Some e) × (m' ≡ m))

abbrev pub TakesBy : (Meaning → Pair → Meaning) → Meaning → Pair → Result (Unit {0}) Refusal → Meaning → Type 0
TakesBy rule m pair r m' = MatchResult r (λ _. (take_refusal m pair ≡ None) × (m' ≡ rule m pair)) (λ e. (take_refusal m pair ≡ Some e) × (m' ≡ m))
