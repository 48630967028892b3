-- What the questions answer, and that nothing open is lawful.
use Rattle.std.proofs.Common.{◌≡◌, ℕ, ◌≤◌, Bool, true, false, ◌&&◌, eqb, List, Some, None, Option, sym, refl, ap, ◌∙◌, inl, inr, arith}
use Rattle.std.specs.Option.{option_map}
use Rattle.std.proofs.lemmas.Bool.{both_ways, and_parts, and_from, eqb-true, eq-eqb}
use Rattle.proposals.specs.declared.proposals.Proposal.{Proposal}
use Rattle.proposals.proofs.Ladder.{level_bound}
use Rattle.matching.specs.Lists.{◌∈◌, first_of}
use Rattle.matching.specs.Matching.{level, has, other, Choice}
use Rattle.matching.specs.Canonical.{Ascending, joins, is_for, saving_in}
use Rattle.matching.specs.Meanings.{ratio, mate_in}
use Rattle.matching.specs.Keeping.{BareLawful, Telling}
use Rattle.matching.proofs.Lists.{none_some, any_false, first_in, first_only, first_nothing}
use Rattle.matching.proofs.Pairs.{has_cases, has_low, has_high, other_low, other_high, one_chosen}
use Rattle.matching.proofs.Order.{joins_self, one_open}

saving_in_lem : (ps : List Proposal) (p : Proposal) → Ascending ps → p ∈ ps → saving_in ps p.low p.high ≡ Some p.saving
saving_in_lem ps p up m =
    ap (option_map (λ (q : Proposal). q.saving))
    (first_only (joins p.low p.high) ps p m (joins_self p) (λ q n h. one_open ps q p p.low p.high up n m h (joins_self p)))

no_saving_in : (ps : List Proposal) (a b : ℕ) → is_for a b ps ≡ false → saving_in ps a b ≡ None
no_saving_in ps a b h =
    ap (option_map (λ (q : Proposal). q.saving)) (first_nothing (joins a b) ps (λ q m k. both_ways (joins a b q) (any_false (joins a b) ps q h m) k))

module _ (r : ℕ) (C : List Proposal) (v l : ℕ) where
  mates : Proposal → Bool
  mates p = eqb (level r p) l && has p v

  mates_parts : (p : Proposal) → mates p ≡ true → (level r p ≡ l) × (has p v ≡ true)
  unfolding mates
  mates_parts p h = let a = and_parts (eqb (level r p) l) (has p v) h in (eqb-true (level r p) l a.0, a.1)

  pub mate_in_lem : Choice r C → (p : Proposal) → p ∈ C → level r p ≡ l → has p v ≡ true → mate_in r C v l ≡ Some (other p v)
  unfolding mates
  mate_in_lem ch p m e h =
      ap (option_map (λ (q : Proposal). other q v))
      (first_only mates C p m (and_from (eqb (level r p) l) (has p v) (eq-eqb (level r p) l e) h)
      (λ q n k. let a = mates_parts q k in one_chosen r C q p v ch n m (a.0 ∙ sym e) a.1 h))

  pub no_mate_in : ((p : Proposal) → p ∈ C → level r p ≡ l → has p v ≡ true → ⊥) → mate_in r C v l ≡ None
  unfolding mates
  no_mate_in h = ap (option_map (λ (q : Proposal). other q v)) (first_nothing mates C (λ q m k. let a = mates_parts q k in h q m a.0 a.1))

  mate_from : (w : ℕ) → mate_in r C v l ≡ Some w → (p : Proposal) × (p ∈ C) × (level r p ≡ l) × (has p v ≡ true) × (other p v ≡ w)
  unfolding mates
  mate_from w e = go (first_of mates C) refl e
    where
      go : (o : Option Proposal) → first_of mates C ≡ o → option_map (λ (q : Proposal). other q v) o ≡ Some w →
          (p : Proposal) × (p ∈ C) × (level r p ≡ l) × (has p v ≡ true) × (other p v ≡ w)
      go None x y = absurd (none_some refl y)
      go (Some p) x y =
          let f = first_in mates C p x in
          let a = mates_parts p f.1 in
          (p, f.0, a.0, a.1, cc)

pub telling : Telling
telling m h =
    let ch = h.maximal.choice in
    record {
      saving = λ p i. saving_in_lem m.opened p h.ascending i;
      no_saving = λ a b k. no_saving_in m.opened a b k;
      low = λ p i. mate_in_lem ratio m.chosen p.low (level ratio p) ch p i refl (has_low p) ∙ ap {B = Option ℕ} Some (other_low p);
      high = λ p i. mate_in_lem ratio m.chosen p.high (level ratio p) ch p i refl (has_high p) ∙ ap {B = Option ℕ} Some (other_high p);
      mates = λ v l w e. mate_from ratio m.chosen v l w e;
      outside = λ v l le. no_mate_in ratio m.chosen v l (λ p i _ k. inside p v le (h.maximal.among p i) k);
      beyond = λ v l le. no_mate_in ratio m.chosen v l (λ p i e _. omega (arith, level_bound ratio p.saving));
    }
  where
    inside : (p : Proposal) (v : ℕ) → m.size ≤ v → p ∈ m.opened → has p v ≡ true → ⊥
    inside p v le i k = elim (has_cases p v k) [ inl e ↦ omega (arith, h.inside p i, p.apart) | inr e ↦ omega (arith, h.inside p i) ]

pub bare_lawful : BareLawful
bare_lawful size capacity two few limit =
    record {
      some = two;
      few = few;
      limit = limit;
      room = omega arith;
      inside = λ p i. absurd i;
      ascending = tt;
      in_order = tt;
      maximal = record { among = λ p i. absurd i; choice = tt; none_left = λ p i. absurd i };
    }
