-- The ordered rule makes a maximal choice, at each level from the open proposals of that level alone.
use Rattle.std.proofs.Common.{◌≡◌, ℕ, Bool, true, false, cond, not, ◌&&◌, ◌||◌, eqb, ◌⊎◌, List, [], ◌∷◌, None, filter, sym, refl, ap, ◌∙◌, subst, inl, inr}
use Rattle.std.proofs.lemmas.Bool.{cases_Bool, or_parts, and_left, not_from_false, eqb-true, eqb-false, eq-eqb, ne_eqb}
use Rattle.proposals.specs.declared.proposals.Proposal.{Proposal}
use Rattle.proposals.specs.declared.pairs.Pair.{Pair}
use Rattle.matching.specs.Lists.{◌∈◌, Pairwise}
use Rattle.matching.specs.Matching.{level, shares, Choice, Maximal, SameButAt}
use Rattle.matching.specs.Canonical.{before, Ascending, insert, joins, without}
use Rattle.matching.specs.Meanings.{Meaning, ratio, Lawful, put_refusal, take_refusal, Put, Take}
use Rattle.matching.specs.Rules.{blocked, holding, in_turn, ordered, ordered_put, ordered_take, ByOrder}
use Rattle.matching.specs.Keeping.{OrderedKeeps, FirstCome, LevelByLevel, pairs_at_level}
use Rattle.matching.proofs.Lists.{kept_by_in, in_kept_by, kept_by_twice}
use Rattle.matching.proofs.Pairs.{apart_sym}
use Rattle.matching.proofs.Order.{before_cases, one_open, insert_kept_by}
use Rattle.matching.proofs.Blocked.{InTheWay, in_way, unblocked}
use Rattle.matching.proofs.Becoming.{Ready, lawful_holding, put_ready, taken, take_ready}

-- what is blocked by a list is blocked by a longer one
blocked_later : (r : ℕ) (C : List Proposal) (p q : Proposal) → blocked r (p ∷ C) q ≡ false → blocked r C q ≡ false
unfolding blocked
blocked_later r C p q h = (or_parts (eqb (level r p) (level r q) && shares q p) (blocked r C q) h).1

turn_in : (r : ℕ) (C ps : List Proposal) (q : Proposal) → q ∈ in_turn r C ps → (q ∈ ps) × (blocked r C q ≡ false)
turn_in r C [] q m = absurd m
turn_in r C (p ∷ ps) q m = go (blocked r C p) refl m (turn_in r C ps q) (turn_in r (p ∷ C) ps q)
  where
    go : (b : Bool) → blocked r C p ≡ b → q ∈ cond b (in_turn r C ps) (p ∷ in_turn r (p ∷ C) ps) →
        (q ∈ in_turn r C ps → (q ∈ ps) × (blocked r C q ≡ false)) →
        (q ∈ in_turn r (p ∷ C) ps → (q ∈ ps) × (blocked r (p ∷ C) q ≡ false)) → (q ∈ (p ∷ ps)) × (blocked r C q ≡ false)
    go true e m f g = (inr (f m).0, (f m).1)
    go false e (inl x) f g = (inl x, ap (blocked r C) x ∙ e)
    go false e (inr m) f g = (inr (g m).0, blocked_later r C p q (g m).1)

turn_pairwise : (R : Proposal → Proposal → Type 0) (r : ℕ) (C ps : List Proposal) → Pairwise R ps → Pairwise R (in_turn r C ps)
turn_pairwise R r C [] h = tt
turn_pairwise R r C (p ∷ ps) h = go (blocked r C p) (turn_pairwise R r C ps h.1) (turn_pairwise R r (p ∷ C) ps h.1)
  where
    go : (b : Bool) → Pairwise R (in_turn r C ps) → Pairwise R (in_turn r (p ∷ C) ps) → Pairwise R (cond b (in_turn r C ps) (p ∷ in_turn r (p ∷ C) ps))
    go true f g = f
    go false f g = (λ q m. h.0 q (turn_in r (p ∷ C) ps q m).0, g)

turn_choice : (r : ℕ) (C ps : List Proposal) → Choice r (in_turn r C ps)
turn_choice r C [] = tt
turn_choice r C (p ∷ ps) = go (blocked r C p) (turn_choice r C ps) (turn_choice r (p ∷ C) ps)
  where
    go : (b : Bool) → Choice r (in_turn r C ps) → Choice r (in_turn r (p ∷ C) ps) → Choice r (cond b (in_turn r C ps) (p ∷ in_turn r (p ∷ C) ps))
    go true f g = f
    go false f g = (λ q m e. apart_sym q p (unblocked r (p ∷ C) q p (turn_in r (p ∷ C) ps q m).1 (inl refl) e), g)

-- each is chosen, or an earlier chosen one is in its way, or one of C is
abbrev PassedFor : ℕ → List Proposal → Proposal → Type 0
PassedFor r C p = (q : Proposal) × (q ∈ C) × (level r q ≡ level r p) × (shares p q ≡ true) × (before q p ≡ true)

turn_done : (r : ℕ) (C ps : List Proposal) (q : Proposal) → Ascending ps → q ∈ ps → (q ∈ in_turn r C ps) ⊎ (PassedFor r (in_turn r C ps) q ⊎ InTheWay r C q)
turn_done r C [] q up m = absurd m
turn_done r C (p ∷ ps) q up m = go (blocked r C p) refl m (turn_done r C ps q up.1) (turn_done r (p ∷ C) ps q up.1)
  where
    go : (b : Bool) → blocked r C p ≡ b → q ∈ (p ∷ ps) →
        (q ∈ ps → (q ∈ in_turn r C ps) ⊎ (PassedFor r (in_turn r C ps) q ⊎ InTheWay r C q)) →
        (q ∈ ps → (q ∈ in_turn r (p ∷ C) ps) ⊎ (PassedFor r (in_turn r (p ∷ C) ps) q ⊎ InTheWay r (p ∷ C) q)) →
        (q ∈ cond b (in_turn r C ps) (p ∷ in_turn r (p ∷ C) ps)) ⊎ (PassedFor r (cond b (in_turn r C ps) (p ∷ in_turn r (p ∷ C) ps)) q ⊎ InTheWay r C q)
    go true e (inl x) f g = inr (inr (subst (InTheWay r C) (sym x) (in_way r C p e)))
    go true e (inr m) f g = f m
    go false e (inl x) f g = inl (inl x)
    go false e (inr m) f g =
        elim (g m) [
          | inl k ↦ inl (inr k)
          | inr (inl w) ↦ inr (inl (w.0, inr w.1, w.2, w.3, w.4))
          | inr (inr w) ↦
              elim w.1 [
                | inl x ↦ inr (inl (w.0, inl x, w.2, w.3, subst (λ (y : Proposal). before y q ≡ true) (sym x) (up.0 q m)))
                | inr k ↦ inr (inr (w.0, k, w.2, w.3))
              ]
        ]

passed_for : (r : ℕ) (opened : List Proposal) (p : Proposal) → Ascending opened → p ∈ opened → (p ∈ ordered r opened) ⊎ PassedFor r (ordered r opened) p
passed_for r opened p up m = elim (turn_done r [] opened p up m) [ inl k ↦ inl k | inr (inl w) ↦ inr w | inr (inr w) ↦ absurd w.1 ]

pub first_come : FirstCome
first_come r opened up p m =
    elim (passed_for r opened p up m) [ inl k ↦ inl k | inr w ↦ inr (w.0, w.1, w.2, w.3, before_cases w.0 p w.4) ]

ordered_maximal : (r : ℕ) (opened : List Proposal) → Ascending opened → Maximal r opened (ordered r opened)
ordered_maximal r opened up =
    record {
      among = λ p m. (turn_in r [] opened p m).0;
      choice = turn_choice r [] opened;
      none_left = λ p m. elim (passed_for r opened p up m) [ inl k ↦ inl k | inr w ↦ inr (w.0, w.1, w.2, w.3) ];
    }

-- at one level
abbrev at : ℕ → ℕ → Proposal → Bool
at r l p = eqb (level r p) l

-- the two lists block the same proposals of level l
abbrev BlockAlike : ℕ → ℕ → List Proposal → List Proposal → Type 0
BlockAlike r l C D = (q : Proposal) → level r q ≡ l → blocked r C q ≡ blocked r D q

alike_more : (r l : ℕ) (C D : List Proposal) (p : Proposal) → BlockAlike r l C D → BlockAlike r l (p ∷ C) (p ∷ D)
unfolding blocked
alike_more r l C D p h q e = ap (λ (b : Bool). (eqb (level r p) (level r q) && shares q p) || b) (h q e)

alike_skip : (r l : ℕ) (C D : List Proposal) (p : Proposal) → (level r p ≡ l → ⊥) → BlockAlike r l C D → BlockAlike r l (p ∷ C) D
unfolding blocked
alike_skip r l C D p ne h q e =
    ap (λ (b : Bool). b || blocked r C q) (and_left (eqb (level r p) (level r q)) (shares q p) (ne_eqb (level r p) (level r q) (λ x. ne (x ∙ e)))) ∙ h q e

turn_at : (r l : ℕ) (C D ps : List Proposal) → BlockAlike r l C D → filter (at r l) (in_turn r C ps) ≡ in_turn r D (filter (at r l) ps)
turn_at r l C D [] h = refl
turn_at r l C D (p ∷ ps) h =
    go (at r l p) refl (blocked r C p) refl (turn_at r l C D ps h) (λ k. turn_at r l (p ∷ C) D ps k) (λ k. turn_at r l (p ∷ C) (p ∷ D) ps k)
  where
    go : (a : Bool) → at r l p ≡ a → (b : Bool) → blocked r C p ≡ b →
        filter (at r l) (in_turn r C ps) ≡ in_turn r D (filter (at r l) ps) →
        (BlockAlike r l (p ∷ C) D → filter (at r l) (in_turn r (p ∷ C) ps) ≡ in_turn r D (filter (at r l) ps)) →
        (BlockAlike r l (p ∷ C) (p ∷ D) → filter (at r l) (in_turn r (p ∷ C) ps) ≡ in_turn r (p ∷ D) (filter (at r l) ps)) →
        filter (at r l) (cond b (in_turn r C ps) (p ∷ in_turn r (p ∷ C) ps)) ≡ in_turn r D (cond a (p ∷ filter (at r l) ps) (filter (at r l) ps))
    go true x true y f g k = rw (sym (h p (eqb-true (level r p) l x)) ∙ y) f
    go true x false y f g k = rw (sym (h p (eqb-true (level r p) l x)) ∙ y, x) (ap (λ (ps : List Proposal). p ∷ ps) (k (alike_more r l C D p h)))
    go false x true y f g k = f
    go false x false y f g k = rw x (g (alike_skip r l C D p (eqb-false (level r p) l x) h))

pub level_by_level : LevelByLevel
level_by_level r l opened = turn_at r l [] [] opened (λ q e. refl)

-- where the open proposals of a level stay, so do the chosen ones
same_at : (r l : ℕ) (ps qs : List Proposal) → pairs_at_level r l ps ≡ pairs_at_level r l qs → pairs_at_level r l (ordered r ps) ≡ pairs_at_level r l (ordered r qs)
same_at r l ps qs e = level_by_level r l ps ∙ ap (ordered r) e ∙ sym (level_by_level r l qs)

same_but_at : (r l : ℕ) (ps qs : List Proposal) → ((k : ℕ) → (k ≡ l → ⊥) → pairs_at_level r k ps ≡ pairs_at_level r k qs) → SameButAt r l (ordered r ps) (ordered r qs)
same_but_at r l ps qs f p ne = (over ps qs (f (level r p) ne), over qs ps (sym (f (level r p) ne)))
  where
    over : (ps qs : List Proposal) → pairs_at_level r (level r p) ps ≡ pairs_at_level r (level r p) qs → p ∈ ordered r ps → p ∈ ordered r qs
    over ps qs e m =
        (kept_by_in (at r (level r p)) (ordered r qs) p
        (subst (λ (xs : List Proposal). p ∈ xs) (same_at r (level r p) ps qs e)
        (in_kept_by (at r (level r p)) (ordered r ps) p m (eq-eqb (level r p) (level r p) refl)))).0

-- the rule is an instance of what every keeper does
choice_lawful : (m : Meaning) (opened : List Proposal) → Lawful m → Ready m opened → Lawful (holding m opened (ordered ratio opened))
choice_lawful m opened h ready =
    lawful_holding m opened (ordered ratio opened) h ready (turn_pairwise (λ p q. before p q ≡ true) ratio [] opened ready.ascending)
    (ordered_maximal ratio opened ready.ascending)

ordered_puts : (m : Meaning) (p : Proposal) → Lawful m → ByOrder m → put_refusal m p ≡ None → Put m p (ordered_put m p)
ordered_puts m p h by accepted =
    record {
      size = refl;
      capacity = refl;
      opens = refl;
      elsewhere =
          subst (λ (C : List Proposal). SameButAt ratio (level ratio p) C (ordered ratio (insert p m.opened))) (sym by)
          (same_but_at ratio (level ratio p) m.opened (insert p m.opened)
          (λ k ne. sym (insert_kept_by (at ratio k) p m.opened (ne_eqb (level ratio p) k (λ e. ne (sym e))))));
      lawful = choice_lawful m (insert p m.opened) h (put_ready m p h accepted);
    }

ordered_takes : (m : Meaning) (pair : Pair) → Lawful m → ByOrder m → take_refusal m pair ≡ None → Take m pair (ordered_take m pair)
ordered_takes m pair h by accepted =
    let a = pair.low in
    let b = pair.high in
    let q = taken m pair accepted in (
      q.0,
      q.1,
      q.2,
      record {
        size = refl;
        capacity = refl;
        opens = refl;
        elsewhere =
            subst (λ (C : List Proposal). SameButAt ratio (level ratio q.0) C (ordered ratio (without a b m.opened))) (sym by)
            (same_but_at ratio (level ratio q.0) m.opened (without a b m.opened)
            (λ k ne. sym (kept_by_twice (at ratio k) (λ s. not (joins a b s)) m.opened
            (λ s i t. not_from_false (joins a b s)
            (elim (cases_Bool (joins a b s)) [
              | inl j ↦
                  absurd (ne (sym (eqb-true (level ratio s) k t) ∙ ap (level ratio) (one_open m.opened s q.0 a b h.ascending i q.1 j q.2)))
              | inr j ↦ j
            ])))));
        lawful = choice_lawful m (without a b m.opened) h (take_ready m a b h);
      },
    )

pub ordered_keeps : OrderedKeeps
ordered_keeps m h by = record { puts = λ p. ordered_puts m p h by; takes = λ pair. ordered_takes m pair h by }
