-- What the makers make, and why they refuse, in the order in which the reasons are looked for.
use Rattle.std.specs.Prelude.{◌≡◌, ℕ, ◌<◌, min, max, cond, ◌||◌, ◌⊎◌, Some, None, Option, ◌==◌, nat_lt}
use Rattle.proposals.specs.declared.pairs.Pair.{Pair}
use Rattle.proposals.specs.declared.proposals.Proposal.{Proposal}
use Rattle.proposals.specs.declared.refusals.Refusal.{Refusal}
use Rattle.proposals.specs.declared.refusals.Reason.TheVariants.{SizeOutOfRange, EqualMeters, SavingOutOfRange}
use Rattle.proposals.specs.Refusals.{found}

-- a group has 2 to 256 meters
abbrev pub size_refusal : ℕ → Option Refusal
size_refusal meters = cond (nat_lt meters 2 || nat_lt 256 meters) (Some (found SizeOutOfRange)) None

-- a pair has two different meters
abbrev pub pair_refusal : ℕ → ℕ → Option Refusal
pair_refusal a b = cond (a == b) (Some (found EqualMeters)) None

-- a proposal has two different meters and saves 1 to 1,048,575
abbrev pub proposal_refusal : ℕ → ℕ → ℕ → Option Refusal
proposal_refusal a b saving =
    cond (a == b) (Some (found EqualMeters)) (cond (saving == 0 || nat_lt 1048575 saving) (Some (found SavingOutOfRange)) None)

-- p is the pair of a and b
pub record Pairs (p : Pair) (a b : ℕ) : Type 0 where
  pub low : p.low ≡ min a b
  pub high : p.high ≡ max a b

-- p proposes to pair a and b, and saves so much
pub record Proposes (p : Proposal) (a b s : ℕ) : Type 0 where
  pub low : p.low ≡ min a b
  pub high : p.high ≡ max a b
  pub saving : p.saving ≡ s

-- p comes before q: by the lower meter, then by the higher one
abbrev pub Before : Pair → Pair → Type 0
Before p q = (p.low < q.low) ⊎ ((p.low ≡ q.low) × (p.high < q.high))
