-- What a pair that comes to the choice or goes from it does to what is chosen, kept and settled.
use Rattle.std.proofs.Common.{◌≡◌, ℕ, ◌+◌, ◌<◌, Bool, true, false, ◌≢◌, ◌⊎◌, Some, Option, sym, refl, ap, ◌∙◌, subst, inl, inr, ⊎_elim, arith}
use Rattle.std.proofs.lemmas.Bool.{cases_eq, false≢true}
use Rattle.choices.specs.declared.mates.Mates.{Mates}
use Rattle.choices.specs.Mates.{entry, joined, parted, Holds, alone}
use Rattle.choices.proofs.Joining.{joined_low, joined_high, joined_else, parted_low, parted_high, parted_else}
use Rattle.settling.specs.declared.kept_pairs.KeptPairs.{KeptPairs}
use Rattle.settling.specs.declared.places.Place.{Place}
use Rattle.settling.specs.Kept.{height_of, joinable, are_mates, Symmetric, Paired, Sound, Begun}
use Rattle.settling.specs.Steps.{Done, SettledBut, Upto, Out, Or, PairedIn, SettledIn, Released, Resettled}
use Rattle.settling.proofs.Tables.{joinable_parts, mates_parts}
use Rattle.settling.proofs.Moves.{released_choice, released_free, released_paired, released_due, released_mate, resettle_both}

pub begun : (k : KeptPairs) → Holds k.choice alone → ((v : ℕ) → height_of k v ≡ 0) → Begun k
begun k own free =
    record {
      chosen = own;
      free = free;
      sound = record {
        symmetric = record {
          inside = λ l v hl hv. omega (arith, own l v hl hv);
          back = λ l v hl hv. ap (entry k.choice l) (own l v hl hv) ∙ own l v hl hv;
        };
        paired = λ v l hv e. absurd (omega (arith, free v));
        settled = λ l v hl hv ne. absurd (ne (own l v hl hv));
      };
    }

-- N' is N but for the two places of a and b at the level l
record Changed (N N' : ℕ → ℕ → ℕ) (l a x b y : ℕ) : Type 0 where
  first : N' l a ≡ x
  second : N' l b ≡ y
  rest : (j v : ℕ) → j < 20 → v < 256 → ((j ≡ l) × (v ≡ a) → ⊥) → ((j ≡ l) × (v ≡ b) → ⊥) → N' j v ≡ N j v

joins : (c : Mates) (N : ℕ → ℕ → ℕ) (l a b : ℕ) → l < 20 → a < 256 → b < 256 → a ≢ b → Holds c (joined N l a b) → Changed N (entry c) l a b b a
joins c N l a b hl ha hb ne h =
    record {
      first = h l a hl ha ∙ joined_low N l a b ne;
      second = h l b hl hb ∙ joined_high N l a b;
      rest = λ j v hj hv p q. h j v hj hv ∙ joined_else N l a b j v (λ e x. p (e, x)) (λ e x. q (e, x));
    }

parts : (c : Mates) (N : ℕ → ℕ → ℕ) (l a b : ℕ) → l < 20 → a < 256 → b < 256 → Holds c (parted N l a b) → Changed N (entry c) l a a b b
parts c N l a b hl ha hb h =
    record {
      first = h l a hl ha ∙ parted_low N l a b;
      second = h l b hl hb ∙ parted_high N l a b;
      rest = λ j v hj hv p q. h j v hj hv ∙ parted_else N l a b j v (λ e x. p (e, x)) (λ e x. q (e, x));
    }

-- the place of v at the level j is that of a or of b at the level l, or another
place : (j v l a b : ℕ) → ((j ≡ l) × (v ≡ a)) ⊎ (((j ≡ l) × (v ≡ b)) ⊎ (((j ≡ l) × (v ≡ a) → ⊥) × ((j ≡ l) × (v ≡ b) → ⊥)))
place j v l a b =
    ⊎_elim
    (λ e.
    ⊎_elim
    (λ p. inl (e, p))
    (λ p. ⊎_elim (λ q. inr (inl (e, q))) (λ q. inr (inr ((λ z. p z.1), (λ z. q z.1)))) (cases_eq v b))
    (cases_eq v a))
    (λ e. inr (inr ((λ z. e z.0), (λ z. e z.0))))
    (cases_eq j l)

module _ (N N' : ℕ → ℕ → ℕ) (l a x b y : ℕ) (c : Changed N N' l a x b y) where
  change_symmetric :
      Symmetric N
      → x < 256
      → y < 256
      → N' l x ≡ a
      → N' l y ≡ b
      → ((v : ℕ) → l < 20 → v < 256 → N l v ≡ a → (v ≡ a) ⊎ (v ≡ b))
      → ((v : ℕ) → l < 20 → v < 256 → N l v ≡ b → (v ≡ a) ⊎ (v ≡ b))
      → Symmetric N'
  change_symmetric s hx hy bx by ca cb =
      record {
        inside = λ j v hj hv.
            ⊎_elim
            (λ p. rw (p.0, p.1, c.first) hx)
            (⊎_elim (λ p. rw (p.0, p.1, c.second) hy) (λ p. rw (c.rest j v hj hv p.0 p.1) (s.inside j v hj hv)))
            (place j v l a b);
        back = λ j v hj hv.
            ⊎_elim
            (λ p. rw (p.0, p.1, c.first) bx)
            (⊎_elim
            (λ p. rw (p.0, p.1, c.second) by)
            (λ p.
            rw (c.rest j v hj hv p.0 p.1)
            (c.rest j (N j v) hj (s.inside j v hj hv)
            (λ q. ⊎_elim (λ z. p.0 (q.0, z)) (λ z. p.1 (q.0, z)) (ca v (rw q.0 at hj) hv (ap (λ i. N i v) (sym q.0) ∙ q.1)))
            (λ q. ⊎_elim (λ z. p.0 (q.0, z)) (λ z. p.1 (q.0, z)) (cb v (rw q.0 at hj) hv (ap (λ i. N i v) (sym q.0) ∙ q.1)))
            ∙ s.back j v hj hv)))
            (place j v l a b);
      }

  change_paired : (A : ℕ → ℕ) → Paired N A → A a ≢ l + 1 → A b ≢ l + 1 → Paired N' A
  change_paired A p na nb v j hv e =
      let h = p v j hv e in
      let same : N' j v ≡ N j v =
      c.rest j v h.low hv
      (λ q. na (ap A (sym q.1) ∙ (e ∙ ap (λ i. i + 1) q.0)))
      (λ q. nb (ap A (sym q.1) ∙ (e ∙ ap (λ i. i + 1) q.0)))
      in
      record { low = h.low; mated = λ z. h.mated (sym same ∙ z); level = ap A same ∙ h.level }

  change_settled :
      (A A' : ℕ → ℕ) (P Q : ℕ → ℕ → Type 0)
      → Symmetric N
      → ((v j : ℕ) → v < 256 → Done A P v j → Done A' Q v j)
      → (N' l a ≢ a → Done A' Q a l ⊎ Done A' Q (N' l a) l)
      → (N' l b ≢ b → Done A' Q b l ⊎ Done A' Q (N' l b) l)
      → SettledBut N A P
      → SettledBut N' A' Q
  change_settled A A' P Q s w da db t j v hj hv =
      ⊎_elim
      (λ p. rw (p.0, p.1) da)
      (⊎_elim
      (λ p. rw (p.0, p.1) db)
      (λ p.
      rw (c.rest j v hj hv p.0 p.1)
      (λ ne. ⊎_elim (λ d. inl (w v j hv d)) (λ d. inr (w (N j v) j (s.inside j v hj hv) d)) (t j v hj hv ne))))
      (place j v l a b)

-- nothing is left out
abbrev Nowhere : ℕ → ℕ → Type 0
Nowhere v l = ⊥

abbrev none : ℕ → ℕ → Bool
none v l = false

all_settled : (k : KeptPairs) → Sound k → SettledIn k Nowhere
all_settled k o l v hl hv ne = ⊎_elim (λ d. inl (inl d)) (λ d. inr (inl d)) (o.settled l v hl hv ne)

-- what is resettled is sound, if D was all that was left out
finish : (k k' : KeptPairs) (D : ℕ → ℕ → Type 0) → Resettled k k' D → Symmetric (entry k.choice) → PairedIn k → SettledIn k (Or (Out none) D) → Sound k'
finish k k' D r s p t =
    let q = r.settles none s p t in
    record {
      symmetric = subst (λ (c : Mates). Symmetric (entry c)) (sym r.choice) s;
      paired = q.0;
      settled = λ l v hl hv ne.
          ⊎_elim
          (⊎_elim inl (λ z. absurd (false≢true z)))
          (⊎_elim inr (λ z. absurd (false≢true z)))
          (q.1 l v hl hv ne);
    }

-- the same kept pairs over another copy
abbrev over : Mates → KeptPairs → KeptPairs
over c k = record { choice = c; heights = k.heights }

-- ## add

-- c has the pair of a and b at the level l too, and k₁ is settled over it
pub add_sound :
    (k k₁ : KeptPairs) (c : Mates) (a b l : ℕ)
    → (l < 20 → a < 256 → b < 256 → Holds c (joined (entry k.choice) l a b))
    → Resettled (over c k) k₁ (Upto a l)
    → Sound k
    → joinable (entry k.choice) l a b ≡ true
    → Holds k₁.choice (joined (entry k.choice) l a b) × Sound k₁
add_sound k k₁ c a b l holds r o test =
    let N : ℕ → ℕ → ℕ = entry k.choice in
    let N' : ℕ → ℕ → ℕ = entry c in
    let w = joinable_parts N l a b test in
    let hl = w.1 in
    let ha = w.2 in
    let hb = w.3 in
    let now = holds hl ha hb in
    let ch : Changed N N' l a b b a = joins c N l a b hl ha hb w.0 now in
    let s = o.symmetric in
    let p = o.paired in
    let at : (v u : ℕ) → v < 256 → N l u ≡ u → N l v ≡ u → v ≡ u = λ v u hv e f. sym (s.back l v hl hv) ∙ (ap (N l) f ∙ e) in (
      λ j v hj hv. ap (λ (m : Mates). entry m j v) r.choice ∙ now j v hj hv,
      finish (over c k) k₁ (Upto a l) r
          (change_symmetric N N' l a b b a ch s hb ha ch.second ch.first
          (λ v _ hv e. inl (at v a hv w.4 e))
          (λ v _ hv e. inr (at v b hv w.5 e)))
          (change_paired N N' l a b b a ch (height_of k) p
          (λ e. (p a l ha e).mated w.4)
          (λ e. (p b l hb e).mated w.5))
          (change_settled N N' l a b b a ch (height_of k) (height_of k) Nowhere (Or (Out none) (Upto a l)) s
          (λ v j hv. ⊎_elim inl (λ z. absurd z))
          (λ _. inl (inr (inr (refl, omega arith))))
          (λ _. inr (inr (inr (ch.second, omega arith))))
          (all_settled k o)),
    )

-- ## remove

-- the two choose each other
both_ways_mates : (N : ℕ → ℕ → ℕ) (l a b : ℕ) → Symmetric N → l < 20 → a < 256 → N l a ≡ b → N l b ≡ a
both_ways_mates N l a b s hl ha e = ap (N l) (sym e) ∙ s.back l a hl ha

-- in k₁ the pair of a and b at the level l is not kept, and what that undoes is left to settle at the two
pub record LetGo (k k₁ : KeptPairs) (a b l : ℕ) : Type 0 where
  same : k₁.choice ≡ k.choice
  paired : Paired (entry k.choice) (height_of k₁)
  not_first : height_of k₁ a ≢ l + 1
  not_second : height_of k₁ b ≢ l + 1
  due : (v j : ℕ) → j < height_of k v → (j < height_of k₁ v) ⊎ Or (Upto a l) (Upto b l) v j

-- it was kept, and was released
pub was_kept :
    (k k₁ : KeptPairs) (a b l : ℕ) (x : Option Place)
    → Released x k k₁ a
    → height_of k a ≡ l + 1
    → Sound k
    → are_mates (entry k.choice) l a b ≡ true
    → LetGo k k₁ a b l
was_kept k k₁ a b l x r e o test =
    let N : ℕ → ℕ → ℕ = entry k.choice in
    let w = mates_parts N l a b test in
    let ha = w.2 in
    let s = o.symmetric in
    let p = o.paired in
    let fa : height_of k₁ a ≡ 0 = released_free N k k₁ a refl ha s p x r in
    let m = released_mate N k k₁ a refl ha s p x l r e in
    let fb : height_of k₁ b ≡ 0 = ap (height_of k₁) (sym w.3) ∙ m.0 in
    record {
      same = released_choice x k k₁ a r;
      paired = released_paired N k k₁ a refl ha s p x r;
      not_first = λ z. omega arith;
      not_second = λ z. omega arith;
      due = λ v j d.
          ⊎_elim
          (λ (q : v ≡ a). inr (inl (q, omega (arith, ap (height_of k) q))))
          (λ q.
          ⊎_elim inl (λ z. let u = m.1 v j z in inr (inr (u.0 ∙ w.3, u.1)))
          (released_due N k k₁ a refl ha s p x r v j q d))
          (cases_eq v a);
    }

-- it was not kept
pub was_loose :
    (k k₁ : KeptPairs) (a b l : ℕ)
    → k₁ ≡ k
    → height_of k a ≢ l + 1
    → Sound k
    → are_mates (entry k.choice) l a b ≡ true
    → LetGo k k₁ a b l
was_loose k k₁ a b l is ne o test =
    let N : ℕ → ℕ → ℕ = entry k.choice in
    let w = mates_parts N l a b test in
    let s = o.symmetric in
    let p = o.paired in
    let f = both_ways_mates N l a b s w.1 w.2 w.3 in
    let hb : b < 256 = omega (arith, s.inside l a w.1 w.2, w.3) in
    subst (λ (q : KeptPairs). LetGo k q a b l) (sym is)
    record {
      same = refl;
      paired = p;
      not_first = ne;
      not_second = λ z. ne (ap (height_of k) (sym f) ∙ (p b l hb z).level);
      due = λ v j d. inl d;
    }

-- c lacks the pair, and k₃ is settled over it at both meters
pub remove_sound :
    (k k₁ k₂ k₃ : KeptPairs) (c : Mates) (a b l : ℕ)
    → (Sound k → are_mates (entry k.choice) l a b ≡ true → LetGo k k₁ a b l)
    → (l < 20 → a < 256 → b < 256 → Holds c (parted (entry k₁.choice) l a b))
    → Resettled (over c k₁) k₂ (Upto a l)
    → Resettled k₂ k₃ (Upto b l)
    → Sound k
    → are_mates (entry k.choice) l a b ≡ true
    → Holds k₃.choice (parted (entry k.choice) l a b) × Sound k₃
remove_sound k k₁ k₂ k₃ c a b l go holds t u o test =
    let N : ℕ → ℕ → ℕ = entry k.choice in
    let N' : ℕ → ℕ → ℕ = entry c in
    let w = mates_parts N l a b test in
    let hl = w.1 in
    let ha = w.2 in
    let g = go o test in
    let s = o.symmetric in
    let f = both_ways_mates N l a b s hl ha w.3 in
    let hb : b < 256 = omega (arith, s.inside l a hl ha, w.3) in
    let now : Holds c (parted N l a b) = subst (λ (m : Mates). Holds c (parted (entry m) l a b)) g.same (holds hl ha hb) in
    let ch : Changed N N' l a a b b = parts c N l a b hl ha hb now in
    let D : ℕ → ℕ → Type 0 = Or (Upto a l) (Upto b l) in
    let both : Resettled (over c k₁) k₃ D = resettle_both (over c k₁) k₂ k₃ (Some record { meter = a; level = l; low = hl }) (Some record { meter = b; level = l; low = hl }) t u in (
      λ j v hj hv. ap (λ (m : Mates). entry m j v) both.choice ∙ now j v hj hv,
      finish (over c k₁) k₃ D both
          (change_symmetric N N' l a a b b ch s ha hb ch.first ch.second
          (λ v _ hv z. inr (sym (s.back l v hl hv) ∙ (ap (N l) z ∙ w.3)))
          (λ v _ hv z. inl (sym (s.back l v hl hv) ∙ (ap (N l) z ∙ f))))
          (change_paired N N' l a a b b ch (height_of k₁) g.paired g.not_first g.not_second)
          (change_settled N N' l a a b b ch (height_of k) (height_of k₁) Nowhere (Or (Out none) D) s
          (λ v j hv. ⊎_elim (λ d. ⊎_elim inl (λ z. inr (inr z)) (g.due v j d)) (λ z. absurd z))
          (λ z. absurd (z ch.first))
          (λ z. absurd (z ch.second))
          (all_settled k o)),
    )
