-- What combining writes into a row, and why it refuses one.
use Rattle.std.specs.Prelude.{◌≡◌, ℕ, ◌<◌, ◌≤◌, List, ◌++◌, map, length, drop, Option, Result, MatchResult, ◌==◌}
use Rattle.std.specs.List.{range_with_len}
use Rattle.std.specs.Option.{option_map, unwrap_or}
use Rattle.proposals.specs.declared.proposals.Proposal.{Proposal}
use Rattle.proposals.specs.declared.refusals.Refusal.{Refusal}
use Rattle.proposals.specs.declared.refusals.Reason.TheVariants.{RowTooShort}
use Rattle.proposals.specs.declared.refusals.Layer.TheVariants as layer
use Rattle.matching.specs.Lists.{first_of}
use Rattle.matching.specs.Canonical.{partner_in}
use Rattle.matching.specs.Meanings.{Meaning, kept_of}

-- the other meter of the pair of K that has v, or v itself where none has it
abbrev pub partner_or : List Proposal → ℕ → ℕ
partner_or K v = unwrap_or (option_map (λ found. found.0) (partner_in K v)) v

-- the partners of the n meters, in their order
abbrev pub partners : List Proposal → ℕ → List ℕ
partners K n = map (partner_or K) (range_with_len 0 n)

-- a row that begins with the partners of all meters, as combining writes it
abbrev pub BeginsWithPartners : Meaning → List ℕ → Type 0
BeginsWithPartners m row = (rest : List ℕ) × (row ≡ partners (kept_of m) m.size ++ rest)

-- the one of K whose lower meter is v
abbrev pub at_lower : List Proposal → ℕ → Option Proposal
at_lower K v = first_of (λ p. p.low == v) K

-- the row is shorter than what would be written
abbrev pub short_row : Refusal
short_row = record { reason = RowTooShort; layer = layer.Board }

-- the row has a place for each meter: there stand the partners in what is kept, and the rest is as it was
pub record Written (m : Meaning) (row row' : List ℕ) : Type 0 where
  pub enough : m.size ≤ length row
  pub written : row' ≡ partners (kept_of m) m.size ++ drop m.size row

-- the row has fewer places than the group has meters, and is as it was
pub record Refused (m : Meaning) (row : List ℕ) (e : Refusal) (row' : List ℕ) : Type 0 where
  pub short : length row < m.size
  pub why : e ≡ short_row
  pub unchanged : row' ≡ row

-- combining over a keeper that means m
abbrev pub Combines : Meaning → List ℕ → Result (Unit {0}) Refusal → List ℕ → Type 0
Combines m row r row' = MatchResult r (λ _. Written m row row') (λ e. Refused m row e row')
