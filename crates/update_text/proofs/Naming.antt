-- Names among the fields of a line.
use Rattle.std.proofs.Common.{◌≡◌, ℕ, ◌<◌, List, [], length, get_or, codes, sym, ap, ◌∙◌, ⊎_elim, arith}
use Rattle.std.proofs.lemmas.List.{get_or_past}
use Rattle.std.proofs.lemmas.Bool.{cases_lt}
use Rattle.update_text.specs.Lines.{fields_of}
use Rattle.update_text.specs.Names.{Named, OnePlacing, Placing}
use Rattle.update_text.specs.declared.columns.Columns.{Columns}

-- a name stands at a place below the number of fields
pub name_low : (fields : List (List ℕ)) (name : List ℕ) (place : ℕ) → 0 < length name → get_or fields place [] ≡ name → place < length fields
name_low fields name place some is =
    ⊎_elim (λ lt. lt) (λ ge. let z : 0 ≡ length name = ap length (sym (get_or_past fields place [] ge) ∙ is) in omega arith) (cases_lt place (length fields))

-- two names stand at two places
other_place : (fields : List (List ℕ)) (x y : List ℕ) (i j : ℕ) → get_or fields i [] ≡ x → get_or fields j [] ≡ y → (x ≡ y → ⊥) → i ≡ j → ⊥
other_place fields x y i j p q apart e = apart (sym p ∙ ap (λ k. get_or fields k []) e ∙ q)

-- where one of two lists of places has a name, the other has no other
record Apart (p q : Columns) : Type 0 where
  act_a : p.act ≡ q.a → ⊥
  act_b : p.act ≡ q.b → ⊥
  act_saving : p.act ≡ q.saving → ⊥
  a_b : p.a ≡ q.b → ⊥
  a_saving : p.a ≡ q.saving → ⊥
  b_saving : p.b ≡ q.saving → ⊥

apart : (fields : List (List ℕ)) (p q : Columns) → Named p fields → Named q fields → Apart p q
apart fields p q h k = record {
  act_a = other_place fields (codes "act") (codes "a") p.act q.a h.act k.a (λ e. omega (arith, ap length e));
  act_b = other_place fields (codes "act") (codes "b") p.act q.b h.act k.b (λ e. omega (arith, ap length e));
  act_saving = other_place fields (codes "act") (codes "saving") p.act q.saving h.act k.saving (λ e. omega (arith, ap length e));
  a_b = other_place fields (codes "a") (codes "b") p.a q.b h.a k.b (λ e. omega (arith, ap (λ l. get_or l 0 0) e));
  a_saving = other_place fields (codes "a") (codes "saving") p.a q.saving h.a k.saving (λ e. omega (arith, ap length e));
  b_saving = other_place fields (codes "b") (codes "saving") p.b q.saving h.b k.saving (λ e. omega (arith, ap length e));
}

pub named_placing : (fields : List (List ℕ)) (p : Columns) → Named p fields → Placing p
named_placing fields p h =
    let four = h.four in
    let own = apart fields p p h h in
    record {
      act = omega (arith, name_low fields _ p.act (omega arith) h.act);
      a = omega (arith, name_low fields _ p.a (omega arith) h.a);
      b = omega (arith, name_low fields _ p.b (omega arith) h.b);
      saving = omega (arith, name_low fields _ p.saving (omega arith) h.saving);
      act_a = own.act_a;
      act_b = own.act_b;
      act_saving = own.act_saving;
      a_b = own.a_b;
      a_saving = own.a_saving;
      b_saving = own.b_saving;
    }

same_columns : (p q : Columns) → q.act ≡ p.act → q.a ≡ p.a → q.b ≡ p.b → q.saving ≡ p.saving → q ≡ p
same_columns p q act a b saving =
    let with : ℕ → ℕ → ℕ → ℕ → Columns = λ w x y z. record { act = w; a = x; b = y; saving = z } in
    ap (λ w. with w q.a q.b q.saving) act ∙ ap (λ x. with p.act x q.b q.saving) a ∙
    ap (λ y. with p.act p.a y q.saving) b ∙ ap (λ z. with p.act p.a p.b z) saving

-- there is no place but the four
no_fifth : (w x y z k : ℕ) → w < 4 → x < 4 → y < 4 → z < 4 → k < 4 → (w ≡ x → ⊥) → (w ≡ y → ⊥) → (w ≡ z → ⊥) → (x ≡ y → ⊥) → (x ≡ z → ⊥) → (y ≡ z → ⊥) → (k ≡ x → ⊥) → (k ≡ y → ⊥) → (k ≡ z → ⊥) → k ≡ w
no_fifth w x y z k lw lx ly lz lk wx wy wz xy xz yz kx ky kz = omega arith

names_once : (fields : List (List ℕ)) (p q : Columns) → Named p fields → Named q fields → q ≡ p
names_once fields p q h k =
    let s = named_placing fields p h in
    let t = named_placing fields q k in
    let x = apart fields p q h k in
    let y = apart fields q p k h in
    same_columns p q
    (no_fifth _ _ _ _ _ s.act s.a s.b s.saving t.act s.act_a s.act_b s.act_saving s.a_b s.a_saving s.b_saving y.act_a y.act_b y.act_saving)
    (no_fifth _ _ _ _ _ s.a s.act s.b s.saving t.a (λ e. s.act_a (sym e)) s.a_b s.a_saving s.act_b s.act_saving s.b_saving (λ e. x.act_a (sym e)) y.a_b y.a_saving)
    (no_fifth _ _ _ _ _ s.b s.act s.a s.saving t.b (λ e. s.act_b (sym e)) (λ e. s.a_b (sym e)) s.b_saving s.act_a s.act_saving s.a_saving (λ e. x.act_b (sym e)) (λ e. x.a_b (sym e)) y.b_saving)
    (no_fifth _ _ _ _ _ s.saving s.act s.a s.b t.saving (λ e. s.act_saving (sym e)) (λ e. s.a_saving (sym e)) (λ e. s.b_saving (sym e)) s.act_a s.act_b s.a_b (λ e. x.act_saving (sym e)) (λ e. x.a_saving (sym e)) (λ e. x.b_saving (sym e)))

pub one_placing : OnePlacing
one_placing line p h = (named_placing (fields_of line) p h.named, λ q k. names_once (fields_of line) p q h.named k.named)
