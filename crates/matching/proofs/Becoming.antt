-- What an accepted put or take does to the open proposals, whatever the rule.
use Rattle.std.proofs.Common.{◌≡◌, ℕ, ◌<◌, ◌≤◌, Bool, true, false, cond, not, eqb, leb, ◌⊎◌, List, length, Some, None, Option, sym, refl, ap, ◌∙◌, subst, inl, inr, arith}
use Rattle.std.proofs.lemmas.Bool.{both_ways, cases_Bool, not-true, not_from_false, eqb-false, leb-false}
use Rattle.proposals.specs.declared.proposals.Proposal.{Proposal}
use Rattle.proposals.specs.declared.pairs.Pair.{Pair}
use Rattle.proposals.specs.declared.refusals.Refusal.{Refusal}
use Rattle.proposals.specs.declared.refusals.Reason.TheVariants.{MeterOutsideGroup, AlreadyOpen, KeeperFull, NotOpen}
use Rattle.matching.specs.Lists.{◌∈◌}
use Rattle.matching.specs.Matching.{Maximal}
use Rattle.matching.specs.Canonical.{Ascending, insert, joins, is_for, without}
use Rattle.matching.specs.Meanings.{Meaning, ratio, Lawful, found, put_refusal, take_refusal}
use Rattle.matching.specs.Rules.{holding}
use Rattle.matching.proofs.Lists.{none_some, any_member, kept_by_in, in_kept_by, length_kept_by_le}
use Rattle.matching.proofs.Order.{one_open, insert_in, insert_length, insert_ascending, picked_ascends}

none_parts : (b : Bool) (e : Refusal) (o : Option Refusal) → cond b (Some e) o ≡ None → (b ≡ false) × (o ≡ None)
none_parts true e o h = absurd (none_some h refl)
none_parts false e o h = (refl, h)

none_open : (b : Bool) (e : Refusal) → cond b None (Some e) ≡ None → b ≡ true
none_open true e h = refl
none_open false e h = absurd (none_some h refl)

-- the open proposals can be these
pub record Ready (m : Meaning) (opened : List Proposal) : Type 0 where
  pub room : length opened ≤ m.capacity
  pub inside : (p : Proposal) → p ∈ opened → p.high < m.size
  pub ascending : Ascending opened

pub lawful_holding : (m : Meaning) (opened C : List Proposal) → Lawful m → Ready m opened → Ascending C → Maximal ratio opened C → Lawful (holding m opened C)
lawful_holding m opened C h r up mx =
    record {
      some = h.some;
      few = h.few;
      limit = h.limit;
      room = r.room;
      inside = r.inside;
      ascending = r.ascending;
      in_order = up;
      maximal = mx;
    }

pub put_ready : (m : Meaning) (p : Proposal) → Lawful m → put_refusal m p ≡ None → Ready m (insert p m.opened)
put_ready m p h accepted =
    let full : Option Refusal = cond (eqb (length m.opened) m.capacity) (Some (found KeeperFull)) None in
    let a = none_parts (leb m.size p.high) (found MeterOutsideGroup) (cond (is_for p.low p.high m.opened) (Some (found AlreadyOpen)) full) accepted in
    let b = none_parts (is_for p.low p.high m.opened) (found AlreadyOpen) full a.1 in
    let c = none_parts (eqb (length m.opened) m.capacity) (found KeeperFull) None b.1 in
    let lt = leb-false m.size p.high a.0 in
    record {
      room = omega (arith, h.room, eqb-false (length m.opened) m.capacity c.0, insert_length p m.opened);
      inside = λ q i.
          elim (insert_in p m.opened q i) [ inl x ↦ subst (λ (y : Proposal). y.high < m.size) (sym x) lt | inr k ↦ h.inside q k ];
      ascending = insert_ascending p m.opened h.ascending b.0;
    }

-- the open proposal that an accepted take names
pub taken : (m : Meaning) (pair : Pair) → take_refusal m pair ≡ None → (q : Proposal) × (q ∈ m.opened) × (joins pair.low pair.high q ≡ true)
taken m pair accepted =
    let there : Option Refusal = cond (is_for pair.low pair.high m.opened) None (Some (found NotOpen)) in
    let a = none_parts (leb m.size pair.high) (found MeterOutsideGroup) there accepted in
    any_member (joins pair.low pair.high) m.opened (none_open (is_for pair.low pair.high m.opened) (found NotOpen) a.1)

pub take_ready : (m : Meaning) (a b : ℕ) → Lawful m → Ready m (without a b m.opened)
take_ready m a b h =
    let t = λ (q : Proposal). not (joins a b q) in
    record {
      room = omega (arith, h.room, length_kept_by_le t m.opened);
      inside = λ q i. h.inside q (kept_by_in t m.opened q i).0;
      ascending = picked_ascends t m.opened h.ascending;
    }

-- rest is ps but for q
abbrev pub ButFor : Proposal → List Proposal → List Proposal → Type 0
ButFor q ps rest = (p : Proposal) → (p ∈ rest → (p ∈ ps) × (p ≡ q → ⊥)) × (p ∈ ps → (p ≡ q → ⊥) → p ∈ rest)

pub without_one : (ps : List Proposal) (q : Proposal) (a b : ℕ) → Ascending ps → q ∈ ps → joins a b q ≡ true → ButFor q ps (without a b ps)
without_one ps q a b up i k p = (
  λ m. let h = kept_by_in (λ q. not (joins a b q)) ps p m in (h.0, λ e. both_ways (joins a b p) (not-true (joins a b p) h.1) (ap (joins a b) e ∙ k)),
  λ m ne. in_kept_by (λ q. not (joins a b q)) ps p m (not_from_false (joins a b p) (apart m ne (cases_Bool (joins a b p)))),
)
  where
    apart : p ∈ ps → (p ≡ q → ⊥) → (joins a b p ≡ true) ⊎ (joins a b p ≡ false) → joins a b p ≡ false
    apart m ne (inl e) = absurd (ne (one_open ps p q a b up m i e k))
    apart m ne (inr e) = e
