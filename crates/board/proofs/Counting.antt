-- The two counts of a call: of the kept pairs and of the choice, between the moments before and after.
use Rattle.std.proofs.Common.{◌≡◌, ℕ, ◌<◌, true, false, not, eqb, List, ◌++◌, length, Some, None, filter, Option, unwrap_or, sym, refl, ap, ◌∙◌, inl, inr, arith}
use Rattle.std.specs.Option.{option_map}
use Rattle.std.proofs.lemmas.Bool.{cases_Bool, cases_eq, eqb-true, eq-eqb, not-true}
use Rattle.proposals.specs.declared.proposals.Proposal.{Proposal}
use Rattle.matching.specs.Lists.{◌∈◌, Pairwise, first_of}
use Rattle.matching.specs.Matching.{level, has, other, shares, is_in, kept, altered}
use Rattle.matching.specs.Canonical.{partner_in}
use Rattle.matching.specs.Meanings.{Meaning, ratio, kept_of}
use Rattle.matching.specs.Keeping.{pairs_at_level}
use Rattle.matching.proofs.Lists.{first_in, kept_by_in, in_kept_by, kept_by_same, kept_by_twice, pairwise_kept_by, pairwise_weaker}
use Rattle.matching.proofs.Pairs.{has_cases, other_high, is_in_lem, in_is, not_in, isnt_in}
use Rattle.matching.proofs.Kept.{combining}
use Rattle.matching.proofs.Order.{kept_ascends, picked_ascends}
use Rattle.runs.proofs.Meters.{rising}
use Rattle.choices.specs.Mates.{entry}
use Rattle.settling.specs.declared.kept_pairs.KeptPairs.{KeptPairs}
use Rattle.settling.specs.Kept.{partner_shown, Copies}
use Rattle.settling.specs.Counts.{differing}
use Rattle.settling.proofs.Bridge.{kept_partner, partner_is}
use Rattle.settling.proofs.Counts.{RowOf, altered_is}
use Rattle.board.specs.Calls.{Changes}

-- a meter below the other one of its pair is the lower one
lower : (p : Proposal) (v w : ℕ) → has p v ≡ true → other p v ≡ w → v < w → p.low ≡ v
lower p v w h e lt =
    elim (has_cases p v h) [
      | inl x ↦ x
      | inr x ↦ absurd (omega (arith, p.apart, other_high p, ap (other p) x, e))
    ]

-- the other meter of the pair that was found for a meter, or the meter itself
abbrev other_or : ℕ → Option Proposal → ℕ
other_or v o = unwrap_or (option_map (λ (x : ℕ × ℕ). x.0) (option_map (λ (p : Proposal). (other p v, p.saving)) o)) v

-- over a copy of the choice C
module _ (k : KeptPairs) (C : List Proposal) (c : Copies k C) where
  low_inside : (p : Proposal) → p ∈ C → p.low < 256
  low_inside p i = omega (arith, p.apart, c.inside p i)

  kept_chosen : (p : Proposal) → p ∈ kept ratio C → p ∈ C
  kept_chosen p i = (combining ratio C c.choice).chosen p i

  -- the row of partners is that of the kept pairs
  kept_row : (P : ℕ → ℕ) → ((v : ℕ) → v < 256 → P v ≡ unwrap_or (partner_shown k v) v) → RowOf 256 (kept ratio C) P
  kept_row P is =
      record {
        pair = λ p i. is p.low (low_inside p (kept_chosen p i)) ∙ ap (λ o. unwrap_or o p.low) (kept_partner k C c p i);
        only = λ v hv lt. found v (omega (arith, lt, is v hv, ap (λ o. unwrap_or o v) (partner_is k C c v))) (first_of (λ p. has p v) (kept ratio C)) refl;
      }
    where
      found : (v : ℕ) → v < unwrap_or (option_map (λ (x : ℕ × ℕ). x.0) (partner_in (kept ratio C) v)) v →
          (o : Option Proposal) → first_of (λ p. has p v) (kept ratio C) ≡ o → (p : Proposal) × (p ∈ kept ratio C) × (p.low ≡ v)
      found v lt None e = absurd (omega (arith, lt, ap (other_or v) e))
      found v lt (Some p) e =
          let f = first_in (λ p. has p v) (kept ratio C) p e in
          (p, f.0, lower p v (other p v) f.1 refl (omega (arith, lt, ap (other_or v) e)))

  kept_rising : Pairwise (λ p q. p.low < q.low) (kept ratio C)
  kept_rising = rising (kept ratio C) (kept_ascends ratio C c.in_order) (combining ratio C c.choice).pairing

  -- the row of mates at a level is that of the chosen pairs of that level
  module _ (l : ℕ) (hl : l < 20) where
    at_level : (p : Proposal) → p ∈ pairs_at_level ratio l C → (p ∈ C) × (level ratio p ≡ l)
    at_level p i = let w = kept_by_in (λ p. eqb (level ratio p) l) C p i in (w.0, eqb-true (level ratio p) l w.1)

    level_row : (P : ℕ → ℕ) → ((v : ℕ) → v < 256 → P v ≡ entry k.choice l v) → RowOf 256 (pairs_at_level ratio l C) P
    level_row P is =
        record {
          pair = λ p i.
              let w = at_level p i in
              is p.low (low_inside p w.0) ∙ ap (λ j. entry k.choice j p.low) (sym w.1) ∙ c.shows.low p w.0;
          only = λ v hv lt.
              let w = c.shows.only l v hl hv (λ e. omega (arith, lt, is v hv)) in (
                w.0,
                in_kept_by (λ p. eqb (level ratio p) l) C w.0 w.1 (eq-eqb (level ratio w.0) l w.2),
                lower w.0 v (entry k.choice l v) w.3 w.4 (omega (arith, lt, is v hv)),
              );
        }

    level_rising : Pairwise (λ p q. p.low < q.low) (pairs_at_level ratio l C)
    level_rising =
        rising (pairs_at_level ratio l C) (picked_ascends (λ p. eqb (level ratio p) l) C c.in_order)
        (pairwise_weaker (λ p q. level ratio p ≡ level ratio q → shares p q ≡ false) (λ p q. shares p q ≡ false) (pairs_at_level ratio l C)
        (λ p q i j f. f ((at_level p i).1 ∙ sym (at_level q j).1))
        (pairwise_kept_by (λ p q. level ratio p ≡ level ratio q → shares p q ≡ false) (λ p. eqb (level ratio p) l) C c.choice))

-- two rows of pairings in which the same meters make the same pair
counted : (A B : List Proposal) (P Q : ℕ → ℕ) → RowOf 256 A P → RowOf 256 B Q →
    Pairwise (λ p q. p.low < q.low) A → Pairwise (λ p q. p.low < q.low) B →
    ((p : Proposal) → p ∈ A → p.low < 256) → ((p : Proposal) → p ∈ B → p.low < 256) →
    ((p q : Proposal) → p ∈ A → q ∈ B → p.low ≡ q.low → p.high ≡ q.high → p ≡ q) → differing P Q 256 ≡ altered A B
counted A B P Q a b upA upB lowA lowB one =
    altered_is A B P Q 256 a b upA upB lowA lowB
    (λ p i e. joint B Q p b (lowA p i) e (λ q j x y. one p q i j (sym x) (sym y)))
    (λ p i e. joint A P p a (lowB p i) e (λ q j x y. sym (one q p j i x y)))
  where
    member : (K : List Proposal) (q p : Proposal) → q ≡ p → q ∈ K → p ∈ K
    member K q p e i = is_in_lem K p (ap (is_in K) (sym e) ∙ in_is K q i)

    joint : (K : List Proposal) (R : ℕ → ℕ) (p : Proposal) → RowOf 256 K R → p.low < 256 → R p.low ≡ p.high →
        ((q : Proposal) → q ∈ K → q.low ≡ p.low → q.high ≡ p.high → p ≡ q) → p ∈ K
    joint K R p r lt e same =
        let w = r.only p.low lt (omega (arith, p.apart)) in
        let high : w.0.high ≡ p.high = sym (r.pair w.0 w.1) ∙ ap R w.2 ∙ e in
        member K w.0 p (sym (same w.0 w.1 w.2 high)) w.1

-- what differs between two choices that are the same at every level but one
altered_at_level : (m m' : Meaning) (l : ℕ) → Changes m l m' → altered (pairs_at_level ratio l m.chosen) (pairs_at_level ratio l m'.chosen) ≡ altered m.chosen m'.chosen
altered_at_level m m' l ch =
    ap length (λ i. half m.chosen m'.chosen (λ p ne. (ch.elsewhere p ne).0) i ++ half m'.chosen m.chosen (λ p ne. (ch.elsewhere p ne).1) i)
  where
    half : (A B : List Proposal) → ((p : Proposal) → (level ratio p ≡ l → ⊥) → p ∈ A → p ∈ B) →
        filter (λ p. not (is_in (pairs_at_level ratio l B) p)) (pairs_at_level ratio l A) ≡ filter (λ p. not (is_in B p)) A
    half A B same =
        kept_by_same (λ p. not (is_in (pairs_at_level ratio l B) p)) (λ p. not (is_in B p)) (pairs_at_level ratio l A)
        (λ p i. ap not (same_there p (eqb-true (level ratio p) l (kept_by_in (λ p. eqb (level ratio p) l) A p i).1)))
        ∙ kept_by_twice (λ p. not (is_in B p)) (λ p. eqb (level ratio p) l) A
        (λ p i x. elim (cases_eq (level ratio p) l) [
          | inl e ↦ eq-eqb (level ratio p) l e
          | inr ne ↦ absurd (not_in B p (not-true (is_in B p) x) (same p ne i))
        ])
      where
        same_there : (p : Proposal) → level ratio p ≡ l → is_in (pairs_at_level ratio l B) p ≡ is_in B p
        same_there p e =
            elim (cases_Bool (is_in B p)) [
              | inl x ↦ in_is (pairs_at_level ratio l B) p (in_kept_by (λ p. eqb (level ratio p) l) B p (is_in_lem B p x) (eq-eqb (level ratio p) l e)) ∙ sym x
              | inr x ↦
                  isnt_in (pairs_at_level ratio l B) p (λ i. not_in B p x (kept_by_in (λ p. eqb (level ratio p) l) B p i).0) ∙ sym x
            ]

module _ (m m' : Meaning) (l : ℕ) (k k' : KeptPairs) (ch : Changes m l m') (c : Copies k m.chosen) (c' : Copies k' m'.chosen) where
  one : (p q : Proposal) → p ∈ m.chosen → q ∈ m'.chosen → p.low ≡ q.low → p.high ≡ q.high → p ≡ q
  one p q i j = ch.one p q (ch.before.maximal.among p i) (ch.after.maximal.among q j)

  -- the kept pairs
  pub counts_kept : (P Q : ℕ → ℕ) → ((v : ℕ) → v < 256 → P v ≡ unwrap_or (partner_shown k v) v) → ((v : ℕ) → v < 256 → Q v ≡ unwrap_or (partner_shown k' v) v) →
      differing P Q 256 ≡ altered (kept_of m) (kept_of m')
  counts_kept P Q p q =
      counted (kept_of m) (kept_of m') P Q (kept_row k m.chosen c P p) (kept_row k' m'.chosen c' Q q)
      (kept_rising k m.chosen c) (kept_rising k' m'.chosen c')
      (λ p i. low_inside k m.chosen c p (kept_chosen k m.chosen c p i)) (λ p i. low_inside k' m'.chosen c' p (kept_chosen k' m'.chosen c' p i))
      (λ p q i j. one p q (kept_chosen k m.chosen c p i) (kept_chosen k' m'.chosen c' q j))

  -- the choice
  pub counts_choice : (hl : l < 20) (P Q : ℕ → ℕ) → ((v : ℕ) → v < 256 → P v ≡ entry k.choice l v) → ((v : ℕ) → v < 256 → Q v ≡ entry k'.choice l v) →
      differing P Q 256 ≡ altered m.chosen m'.chosen
  counts_choice hl P Q p q =
      counted (pairs_at_level ratio l m.chosen) (pairs_at_level ratio l m'.chosen) P Q
      (level_row k m.chosen c l hl P p) (level_row k' m'.chosen c' l hl Q q)
      (level_rising k m.chosen c l hl) (level_rising k' m'.chosen c' l hl)
      (λ p i. low_inside k m.chosen c p (at_level k m.chosen c l hl p i).0) (λ p i. low_inside k' m'.chosen c' p (at_level k' m'.chosen c' l hl p i).0)
      (λ p q i j. one p q (at_level k m.chosen c l hl p i).0 (at_level k' m'.chosen c' l hl q j).0)
      ∙ altered_at_level m m' l ch
