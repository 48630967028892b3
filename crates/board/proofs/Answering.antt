-- Lemmas on reading a board: a meter's kept pair, and the kept pairs by rising lower meter.
use Rattle.std.proofs.Common.{◌≡◌, ℕ, ◌+◌, ◌*◌, ◌<◌, ◌≤◌, min, max, true, cond, eqb, ltb, List, [], ◌∷◌, ◌++◌, length, take, drop, is_some, Some, None, Option, sym, refl, ap, ◌∙◌, subst, inl, inr, add-zero, arith}
use Rattle.std.specs.Option.{option_map}
use Rattle.std.proofs.lemmas.List.{length_push, take_at, drop_at, drop-drop, append_assoc, flat_map_more}
use Rattle.std.proofs.lemmas.List.Sums.{sum_by_push}
use Rattle.std.proofs.lemmas.Bool.{both_ways, cases_lt, cond-true, cond-false, eqb-true, eq-eqb, ne_eqb, lt-ltb, le-ltb}
use Rattle.std.proofs.lemmas.Bool.Decides.{nat_tests}
use Rattle.proposals.specs.declared.proposals.Proposal.{Proposal}
use Rattle.matching.specs.Lists.{◌∈◌, Pairwise, first_of}
use Rattle.matching.specs.Matching.{has, other, Pairing, Settled, total}
use Rattle.matching.specs.Canonical.{partner_in, listing}
use Rattle.matching.specs.Meanings.{Meaning, ratio, kept_of, saving_of}
use Rattle.matching.proofs.Lists.{none_some, first_in, first_none, first_only, first_nothing, kept_by_all, length_kept_by_le}
use Rattle.matching.proofs.Pairs.{has_cases, has_low, other_low, other_high, one_pair}
use Rattle.matching.proofs.Kept.{combining}
use Rattle.matching.proofs.Order.{kept_ascends}
use Rattle.matching.proofs.Telling.{telling}
use Rattle.runs.proofs.Meters.{partner_low, few_pairs, total_bound, rising}
use Rattle.settling.specs.declared.kept_pairs.KeptPairs.{KeptPairs}
use Rattle.settling.specs.Counts.{one}
use Rattle.settling.specs.Kept.{partner_shown}
use Rattle.board.specs.Reading.{saving_between, lower_than, pair_at, end_at, Written}
use Rattle.board.specs.Serving.{Serves}

-- what an answer came from
mapped_some : {X Y : Type 0} (f : X → Y) (o : Option X) (y : Y) → option_map f o ≡ Some y → (x : X) × (o ≡ Some x) × (f x ≡ y)
mapped_some f None y e = absurd (none_some refl e)
mapped_some f (Some x) y e = (x, refl, cc)

mapped_none : {X Y : Type 0} (f : X → Y) (o : Option X) → option_map f o ≡ None → o ≡ None
mapped_none f None e = refl
mapped_none f (Some x) e = absurd (none_some e refl)

-- the other meter and the saving of a pair that has the meter v, and of one that has it as its lower meter
partnered : ℕ → Proposal → ℕ × ℕ
partnered v p = (other p v, p.saving)

ended : Proposal → ℕ × ℕ
ended p = (p.high, p.saving)

module _ (K : List Proposal) (v w s : ℕ) where
  pair_of : partner_in K v ≡ Some (w, s) → (p : Proposal) × (p ∈ K) × (has p v ≡ true) × (other p v ≡ w) × (p.saving ≡ s)
  unfolding partnered
  pair_of e =
      let (p, is, same) = mapped_some (partnered v) (first_of (λ q. has q v) K) (w, s) e in
      let (m, k) = first_in (λ q. has q v) K p is in
      (p, m, k, ap (λ (x : ℕ × ℕ). x.0) same, ap (λ (x : ℕ × ℕ). x.1) same)

  low_pair_of : end_at K v ≡ Some (w, s) → (p : Proposal) × (p ∈ K) × (p.low ≡ v) × (p.high ≡ w) × (p.saving ≡ s)
  unfolding ended
  low_pair_of e =
      let (p, is, same) = mapped_some ended (pair_at K v) (w, s) e in
      let (m, k) = first_in (λ q. eqb q.low v) K p is in
      (p, m, eqb-true p.low v k, ap (λ (x : ℕ × ℕ). x.0) same, ap (λ (x : ℕ × ℕ). x.1) same)

-- a meter of a pair and the other one
in_order : (p : Proposal) (v w : ℕ) → has p v ≡ true → other p v ≡ w → (min v w ≡ p.low) × (max v w ≡ p.high)
in_order p v w k o =
    elim (has_cases p v k) [
      | inl e ↦ let b = other_low p in let c = ap (other p) e in (omega (arith, p.apart), omega (arith, p.apart))
      | inr e ↦ let b = other_high p in let c = ap (other p) e in (omega (arith, p.apart), omega (arith, p.apart))
    ]

-- the pair of which v is the lower meter, among those of a pairing
module _ (K : List Proposal) (v : ℕ) (h : Pairing K) where
  end_some : (w s : ℕ) → partner_in K v ≡ Some (w, s) → v < w → end_at K v ≡ Some (w, s)
  unfolding ended
  end_some w s e lt =
      let (p, m, k, o, saves) = pair_of K v w s e in
      let (x, y) = in_order p v w k o in
      let low : p.low ≡ v = omega arith in
      let high : p.high ≡ w = omega arith in
      let one : pair_at K v ≡ Some p =
      first_only (λ q. eqb q.low v) K p m (eq-eqb p.low v low)
      (λ q n l. one_pair K q p v h n m (subst (λ (u : ℕ). has q u ≡ true) (eqb-true q.low v l) (has_low q)) k) in
      let end = ap (option_map ended) one in
      cc

  end_none : ((w s : ℕ) → partner_in K v ≡ Some (w, s) → v < w → ⊥) → end_at K v ≡ None
  unfolding ended
  end_none none =
      ap (option_map ended)
      (first_nothing (λ q. eqb q.low v) K
      (λ q m k.
      let low = eqb-true q.low v k in
      none q.high q.saving (ap (partner_in K) (sym low) ∙ partner_low K q h m) (omega (arith, q.apart))))

-- the partner of v and its saving, but none where v is the higher meter of the two
abbrev pub above : ℕ → Option (ℕ × ℕ) → Option (ℕ × ℕ)
above v None = None
above v (Some x) = cond (ltb v x.0) (Some x) None

end_is : (K : List Proposal) (v : ℕ) → Pairing K → (o : Option (ℕ × ℕ)) → o ≡ partner_in K v → above v o ≡ end_at K v
end_is K v h None e = sym (end_none K v h (λ w s i lt. none_some (sym e) i))
end_is K v h (Some (w, s)) e =
    elim (cases_lt v w) [
      | inl lt ↦ cond-true (ltb v w) (Some (w, s)) None (lt-ltb v w lt) ∙ sym (end_some K v h w s (sym e) lt)
      | inr le ↦
          cond-false (ltb v w) (Some (w, s)) None (le-ltb v w le) ∙
          sym (end_none K v h (λ u t i lt. let same : ◌≡◌ {A = ℕ × ℕ} (w, s) (u, t) = cc in omega (arith, ap (λ (x : ℕ × ℕ). x.0) same)))
    ]

-- the pairs whose lower meter is below a number
none_lower : (n : ℕ) (K : List Proposal) → ((p : Proposal) → p ∈ K → n ≤ p.low) → lower_than n K ≡ []
none_lower n [] h = refl
none_lower n (p ∷ ps) h = rw (le-ltb p.low n (h p (inl refl))) (none_lower n ps (λ q m. h q (inr m)))

same_lower : (v : ℕ) (K : List Proposal) → ((p : Proposal) → p ∈ K → p.low ≡ v → ⊥) → lower_than (v + 1) K ≡ lower_than v K
same_lower v [] h = refl
same_lower v (p ∷ ps) h = let ih = same_lower v ps (λ q m. h q (inr m)) in let ne = h p (inl refl) in grind (arith, nat_tests)

one_lower : (v : ℕ) (K : List Proposal) (p : Proposal) → Pairwise (λ p q. p.low < q.low) K → p ∈ K → p.low ≡ v →
    lower_than (v + 1) K ≡ lower_than v K ++ p ∷ []
one_lower v [] p h m e = absurd m
one_lower v (q ∷ qs) p h (inl i) e =
    let low : q.low ≡ v = ap (λ (x : Proposal). x.low) (sym i) ∙ e in
    rw (
      lt-ltb q.low (v + 1) (omega arith),
      le-ltb q.low v (omega arith),
      none_lower (v + 1) qs (λ r m. omega (arith, h.0 r m)),
      none_lower v qs (λ r m. omega (arith, h.0 r m)),
    ) (ap (λ (x : Proposal). x ∷ []) (sym i))
one_lower v (q ∷ qs) p h (inr m) e =
    let lt = h.0 p m in
    rw (lt-ltb q.low (v + 1) (omega arith), lt-ltb q.low v (omega arith)) (ap (λ (ps : List Proposal). q ∷ ps) (one_lower v qs p h.1 m e))

-- the list B is the list A with one pair more, of the meters v and w and the saving s
pub record More (A B : List Proposal) (v w s : ℕ) : Type 0 where
  pub count : length B ≡ length A + 1
  pub sum : total B ≡ total A + s
  pub row : listing B ≡ listing A ++ v ∷ w ∷ s ∷ []

more : (A : List Proposal) (p : Proposal) (v w s : ℕ) → p.low ≡ v → p.high ≡ w → p.saving ≡ s → More A (A ++ p ∷ []) v w s
more A p v w s low high saves =
    record {
      count = length_push A p;
      sum = sum_by_push (λ (q : Proposal). q.saving) A p ∙ ap (λ (x : ℕ). total A + x) saves;
      row = sym (flat_map_more (λ (q : Proposal). q.low ∷ q.high ∷ q.saving ∷ []) [] A p) ∙ cc;
    }

pub length_listing : (K : List Proposal) → length (listing K) ≡ 3 * length K
length_listing [] = refl
length_listing (p ∷ ps) = omega (arith, length_listing ps)

-- three numbers more in a row, after those that were written already
three_more : (front : List ℕ) (n : ℕ) (row : List ℕ) (v w s : ℕ) → length front ≡ n →
    take n (front ++ drop n row) ++ v ∷ (w ∷ (s ∷ drop (n + 3) (front ++ drop n row))) ≡ (front ++ v ∷ w ∷ s ∷ []) ++ drop (n + 3) row
three_more front n row v w s e =
    rw (take_at front (drop n row) n e, ← drop-drop 3 n (front ++ drop n row), drop_at front (drop n row) n e, drop-drop 3 n row, append_assoc)

-- of a board that serves
module _ {S : Type 0} {m : Meaning} {k : KeptPairs} (serves : Serves S m k) where
  settled : Settled ratio m.chosen (kept_of m)
  settled = combining ratio m.chosen serves.lawful.maximal.choice

  are_open : (p : Proposal) → p ∈ kept_of m → p ∈ m.opened
  are_open p i = serves.lawful.maximal.among p (settled.chosen p i)

  inside : (p : Proposal) (v : ℕ) → p ∈ kept_of m → has p v ≡ true → v < 256
  inside p v i l =
      let lt = serves.lawful.inside p (are_open p i) in
      elim (has_cases p v l) [ inl e ↦ omega (arith, serves.lawful.few, p.apart) | inr e ↦ omega (arith, serves.lawful.few) ]

  -- its table has a meter's partner, and its keeper tells what the two save
  pub partner_told : (v w : ℕ) (o : Option ℕ) → Some w ≡ partner_shown k v → o ≡ saving_between m v w →
      option_map {U = ℕ × ℕ} (λ s. (w, s)) o ≡ partner_in (kept_of m) v
  partner_told v w o shown told =
      let (x, is, same) = mapped_some (λ (x : ℕ × ℕ). x.0) (partner_in (kept_of m) v) w (sym (shown ∙ serves.keeps v)) in
      let (p, i, l, q, saves) = pair_of (kept_of m) v x.0 x.1 is in
      let (low, high) = in_order p v w l (q ∙ same) in
      let between : saving_of m (min v w) (max v w) ≡ Some x.1 =
      rw (low, high) ((telling m serves.lawful).saving p (are_open p i) ∙ ap {B = Option ℕ} Some saves) in
      let apart = cond-false (eqb v w) None (saving_of m (min v w) (max v w)) (ne_eqb v w (λ u. omega (arith, p.apart))) in
      ap (option_map {U = ℕ × ℕ} (λ s. (w, s))) (told ∙ apart ∙ between) ∙ ap {B = Option (ℕ × ℕ)} (λ u. Some (u, x.1)) (sym same) ∙ sym is

  pub end_told : (v : ℕ) (o : Option (ℕ × ℕ)) → o ≡ partner_in (kept_of m) v → above v o ≡ end_at (kept_of m) v
  end_told v o e = end_is (kept_of m) v settled.pairing o e

  -- the kept pairs by rising lower meter: none at first, one more at a meter that is the lower one of a pair, and all in the end
  pub at_first : lower_than 0 (kept_of m) ≡ []
  at_first = none_lower 0 (kept_of m) (λ p i. omega arith)

  pub none_more : (v : ℕ) → None ≡ end_at (kept_of m) v → lower_than (v + 1) (kept_of m) ≡ lower_than v (kept_of m)
  unfolding ended
  none_more v e =
      let none = mapped_none ended (pair_at (kept_of m) v) (sym e) in
      same_lower v (kept_of m) (λ p i low. both_ways (eqb p.low v) (first_none (λ q. eqb q.low v) (kept_of m) p none i) (eq-eqb p.low v low))

  pub one_more : (v w s : ℕ) → Some (w, s) ≡ end_at (kept_of m) v → More (lower_than v (kept_of m)) (lower_than (v + 1) (kept_of m)) v w s
  one_more v w s e =
      let (p, i, low, high, saves) = low_pair_of (kept_of m) v w s (sym e) in
      let up = rising (kept_of m) (kept_ascends ratio m.chosen serves.lawful.in_order) settled.pairing in
      rw (one_lower v (kept_of m) p up i low) (more (lower_than v (kept_of m)) p v w s low high saves)

  pub in_the_end : (n : ℕ) → 256 ≤ n → lower_than n (kept_of m) ≡ kept_of m
  in_the_end n le = kept_by_all (λ p. ltb p.low n) (kept_of m) (λ p i. lt-ltb p.low n (omega (arith, inside p p.low i (has_low p))))

  pub count_bound : (n : ℕ) → length (lower_than n (kept_of m)) ≤ length (kept_of m)
  count_bound n = length_kept_by_le (λ p. ltb p.low n) (kept_of m)

  pub sum_bound : (n : ℕ) → total (lower_than n (kept_of m)) ≤ 134217600
  sum_bound n = omega (arith, few_pairs (kept_of m) 256 settled.pairing inside, count_bound n, total_bound (lower_than n (kept_of m)))

  -- how many they are
  pub count_next : (v : ℕ) (o : Option (ℕ × ℕ)) → o ≡ end_at (kept_of m) v →
      length (lower_than (v + 1) (kept_of m)) ≡ length (lower_than v (kept_of m)) + one (is_some o)
  count_next v None e = ap length (none_more v e) ∙ sym (add-zero (length (lower_than v (kept_of m))))
  count_next v (Some (w, s)) e = (one_more v w s e).count

  -- in a row
  pub written_first : (row : List ℕ) → Written (kept_of m) 0 0 row row
  written_first row = record { places = rw at_first; whole = rw at_first }

  pub written_same : (v n : ℕ) (before row : List ℕ) → None ≡ end_at (kept_of m) v → Written (kept_of m) v n before row → Written (kept_of m) (v + 1) n before row
  written_same v n before row e h = record { places = rw (none_more v e) h.places; whole = rw (none_more v e) h.whole }

  pub written_more : (v w s n : ℕ) (before row : List ℕ) → Some (w, s) ≡ end_at (kept_of m) v → Written (kept_of m) v n before row →
      Written (kept_of m) (v + 1) (n + 3) before (take n row ++ v ∷ (w ∷ (s ∷ drop (n + 3) row)))
  written_more v w s n before row e h =
      let next = one_more v w s e in
      let front = listing (lower_than v (kept_of m)) in
      record {
        places = omega (arith, next.count, h.places);
        whole =
            ap (λ (xs : List ℕ). take n xs ++ v ∷ (w ∷ (s ∷ drop (n + 3) xs))) h.whole ∙
            three_more front n before v w s (length_listing (lower_than v (kept_of m)) ∙ sym h.places) ∙
            ap (λ (xs : List ℕ). xs ++ drop (n + 3) before) (sym next.row);
      }

  pub written_all : (v n : ℕ) (before row : List ℕ) → 256 ≤ v → Written (kept_of m) v n before row →
      row ≡ listing (kept_of m) ++ drop (3 * length (kept_of m)) before
  written_all v n before row le h =
      let K = lower_than v (kept_of m) in
      h.whole ∙
      ap (λ (x : ℕ). listing K ++ drop x before) h.places ∙
      ap (λ (A : List Proposal). listing A ++ drop (3 * length A) before) (in_the_end v le)
