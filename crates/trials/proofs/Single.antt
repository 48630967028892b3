-- A keeper with room for one proposal means what a keeper means.
use Rattle.std.proofs.Common.{◌≡◌, ℕ, ◌<◌, ◌≤◌, Bool, true, false, cond, not, ◌||◌, leb, is_some, IfSome, Some, None, Option, sym, refl, ap, ◌∙◌, subst, inl, inr, arith}
use Rattle.std.specs.Option.{option_map, option_to_list}
use Rattle.std.proofs.lemmas.Bool.{both_ways, cond-true, cond-false, or_left}
use Rattle.std.proofs.lemmas.Bool.Decides.{nat_tests}
use Rattle.proposals.specs.declared.pairs.Pair.{Pair}
use Rattle.proposals.specs.declared.proposals.Proposal.{Proposal}
use Rattle.matching.specs.Matching.{level}
use Rattle.matching.specs.Canonical.{joins}
use Rattle.matching.specs.Meanings.{Meaning, Lawful, ratio, saving_of, take_refusal, Take}

not_above : (a b : ℕ) → a < b → leb b a ≡ false
not_above a b h = grind (arith, nat_tests)

pub lawful_of : (n : ℕ) (o : Option Proposal) → 2 ≤ n → n ≤ 256 → IfSome o (λ p. p.high < n) →
    Lawful (record { size = n; capacity = 1; opened = option_to_list o; chosen = option_to_list o })
lawful_of n None two few inside = record {
  some = two;
  few = few;
  limit = omega arith;
  room = omega arith;
  inside = λ p m. absurd m;
  ascending = tt;
  in_order = tt;
  maximal = record { among = λ p m. m; choice = tt; none_left = λ p m. inl m };
}
lawful_of n (Some q) two few inside = record {
  some = two;
  few = few;
  limit = omega arith;
  room = omega arith;
  inside = λ p m. elim m [ inl e ↦ subst (λ (x : Proposal). x.high < n) (sym e) inside | inr k ↦ absurd k ];
  ascending = (λ p m. absurd m, tt);
  in_order = (λ p m. absurd m, tt);
  maximal = record { among = λ p m. m; choice = (λ p m. absurd m, tt); none_left = λ p m. inl m };
}

-- what it means, by its parts
abbrev pub held_of : ℕ → Option Proposal → Meaning
held_of n o = record { size = n; capacity = 1; opened = option_to_list o; chosen = option_to_list o }

-- what is held is taken
pub lone_take : (n : ℕ) (o : Option Proposal) (pair : Pair) → Lawful (held_of n o) → pair.high < n → is_some (saving_of (held_of n o) pair.low pair.high) ≡ true →
    (take_refusal (held_of n o) pair ≡ None) × Take (held_of n o) pair (held_of n None)
lone_take n None pair ok lt some = absurd (both_ways false refl some)
lone_take n (Some q) pair ok lt some = go (joins pair.low pair.high q) refl some
  where
    go : (t : Bool) → joins pair.low pair.high q ≡ t → is_some (option_map (λ p. p.saving) (cond t (Some q) None)) ≡ true →
        (take_refusal (held_of n (Some q)) pair ≡ None) × Take (held_of n (Some q)) pair (held_of n None)
    go false j some = absurd (both_ways false refl some)
    go true j some = (
      cond-false (leb n pair.high) _ _ (not_above pair.high n lt) ∙ cond-true (joins pair.low pair.high q || false) _ _ (or_left (joins pair.low pair.high q) false j),
      (
        q,
        inl refl,
        j,
        record {
          size = refl;
          capacity = refl;
          opens = sym (cond-false (not (joins pair.low pair.high q)) _ _ (ap not j));
          elsewhere = λ p ne. (λ m. elim m [ inl e ↦ absurd (ne (ap (level ratio) e)) | inr k ↦ k ], λ m. absurd m);
          lawful = lawful_of n None ok.some ok.few tt;
        },
      ),
    )
