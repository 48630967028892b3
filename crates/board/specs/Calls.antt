-- What propose and withdraw answer and do.
use Rattle.std.specs.Prelude.{◌≡◌, ℕ, Some, None, Result, MatchResult}
use Rattle.proposals.specs.declared.proposals.Proposal.{Proposal}
use Rattle.proposals.specs.declared.pairs.Pair.{Pair}
use Rattle.proposals.specs.declared.refusals.Refusal.{Refusal}
use Rattle.std.specs.Option.{unwrap_or}
use Rattle.matching.specs.Lists.{◌∈◌}
use Rattle.matching.specs.Matching.{altered, SameButAt}
use Rattle.matching.specs.Meanings.{Meaning, Lawful, ratio, kept_of, mate_of, put_refusal, take_refusal, Put, Take}
use Rattle.settling.specs.declared.kept_pairs.KeptPairs.{KeptPairs}
use Rattle.settling.specs.Kept.{Copies}

-- the two counts between the moments before and after a call: of the pairs in exactly one of the two kept sets,
-- and of those in exactly one of the keeper's two choices
pub record Counted (m m' : Meaning) (counts : ℕ × ℕ) : Type 0 where
  pub kept : counts.0 ≡ altered (kept_of m) (kept_of m')
  pub choice : counts.1 ≡ altered m.chosen m'.chosen

-- accepted, the proposal is open; refused, for the first reason there is, nothing changes
abbrev pub Proposes : Meaning → Proposal → Result (ℕ × ℕ) Refusal → Meaning → Type 0
Proposes m p r m' = MatchResult r (λ counts. (put_refusal m p ≡ None) × Put m p m' × Counted m m' counts) (λ e. (put_refusal m p ≡ Some e) × (m' ≡ m))

-- accepted, the pair is no longer open; refused, for the first reason there is, nothing changes
abbrev pub Withdraws : Meaning → Pair → Result (ℕ × ℕ) Refusal → Meaning → Type 0
Withdraws m pair r m' = MatchResult r (λ counts. (take_refusal m pair ≡ None) × Take m pair m' × Counted m m' counts) (λ e. (take_refusal m pair ≡ Some e) × (m' ≡ m))

-- the mate that a keeper answers for a meter at a level, or the meter's own number
abbrev pub mate_or : Meaning → ℕ → ℕ → ℕ
mate_or m l v = unwrap_or (mate_of m v l) v

-- from m to m' the choice changed at level l alone, and two meters that were open and still are have the same proposal
pub record Changes (m : Meaning) (l : ℕ) (m' : Meaning) : Type 0 where
  pub before : Lawful m
  pub after : Lawful m'
  pub elsewhere : SameButAt ratio l m.chosen m'.chosen
  pub one : (p q : Proposal) → p ∈ m.opened → q ∈ m'.opened → p.low ≡ q.low → p.high ≡ q.high → p ≡ q

-- the table k, which copied the choice of m, became k', which copies that of m', and the two counts are those between m and m'
pub record Refreshed (m m' : Meaning) (k' : KeptPairs) (counts : ℕ × ℕ) : Type 0 where
  pub copies : Copies k' m'.chosen
  pub counted : Counted m m' counts
