-- What partner, saved and list answer and write.
use Rattle.std.specs.Prelude.{◌≡◌, ℕ, ◌*◌, min, max, Bool, cond, ltb, List, ◌++◌, length, drop, None, Ok, Err, filter, Option, Result, ◌==◌, nat_eq, nat_le, nat_lt}
use Rattle.std.specs.Option.{option_map}
use Rattle.proposals.specs.declared.proposals.Proposal.{Proposal}
use Rattle.proposals.specs.declared.refusals.Refusal.{Refusal}
use Rattle.proposals.specs.declared.refusals.Reason.TheVariants.{MeterOutsideGroup, RowTooShort}
use Rattle.matching.specs.Lists.{first_of}
use Rattle.matching.specs.Canonical.{partner_in, listing}
use Rattle.matching.specs.Meanings.{Meaning, kept_of, saving_of}
use Rattle.runs.specs.Runs.{found}

-- the other meter and the saving of a meter's kept pair, or none; refused outside the group
abbrev pub partner_of : Meaning → ℕ → Result (Option (ℕ × ℕ)) Refusal
partner_of m v = cond (nat_le m.size v) (Err (found MeterOutsideGroup)) (Ok (partner_in (kept_of m) v))

-- the saving of the open proposal for two meters, given in either order, or none
abbrev pub saving_between : Meaning → ℕ → ℕ → Option ℕ
saving_between m a b = cond (a == b) None (saving_of m (min a b) (max a b))

-- a row of w numbers is too short for the kept pairs
abbrev pub short : Meaning → ℕ → Bool
short m w = nat_lt w (3 * length (kept_of m))

-- how many pairs are kept; refused for a row of w numbers that is too short
abbrev pub count_of : Meaning → ℕ → Result ℕ Refusal
count_of m w = cond (short m w) (Err (found RowTooShort)) (Ok (length (kept_of m)))

-- the row then: lower meter, higher meter and saving of each kept pair, and after them as it was; as it was if it is too short
abbrev pub listed_in : Meaning → List ℕ → List ℕ
listed_in m row = cond (short m (length row)) row (listing (kept_of m) ++ drop (3 * length (kept_of m)) row)

-- the kept pairs whose lower meter is below v
abbrev pub lower_than : ℕ → List Proposal → List Proposal
lower_than v K = filter (λ p. ltb p.low v) K

-- the kept pair whose lower meter is v, or none
abbrev pub pair_at : List Proposal → ℕ → Option Proposal
pair_at K v = first_of (λ p. nat_eq p.low v) K

-- its higher meter and its saving
abbrev pub end_at : List Proposal → ℕ → Option (ℕ × ℕ)
end_at K v = option_map (λ p. (p.high, p.saving)) (pair_at K v)

-- the pairs of K whose lower meter is below v stand in the first n places of the row, which is as it was after them
pub record Written (K : List Proposal) (v n : ℕ) (before row : List ℕ) : Type 0 where
  pub places : n ≡ 3 * length (lower_than v K)
  pub whole : row ≡ listing (lower_than v K) ++ drop n before
