-- Two proposals with the same meters and saving are one.
use Rattle.std.proofs.Common.{◌≡◌, ◌<◌, ◌≤◌}
use mathlib.Core.HLevel.{is_prop→PathP}
use native.Mathlib.Bridge.{le_prop}
use Rattle.proposals.specs.declared.proposals.Proposal.{Proposal}

pub same_parts : (p q : Proposal) → p.low ≡ q.low → p.high ≡ q.high → p.saving ≡ q.saving → p ≡ q
same_parts p q a b c = λ i. record {
  low = a i;
  high = b i;
  saving = c i;
  apart = is_prop→PathP (λ i. a i < b i) (λ i. le_prop) p.apart q.apart i;
  some = is_prop→PathP (λ i. 1 ≤ c i) (λ i. le_prop) p.some q.some i;
  limited = is_prop→PathP (λ i. c i ≤ 1048575) (λ i. le_prop) p.limited q.limited i;
}
