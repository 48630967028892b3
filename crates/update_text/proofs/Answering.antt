-- A line has one answer.
use Rattle.std.proofs.Common.{◌≡◌, ℕ, ◌<◌, Ok, Err, sym, refl, ap, ◌∙◌, subst, arith}
use Rattle.std.proofs.lemmas.Bool.{both_ways}
use Rattle.proposals.specs.declared.refusals.Reason.TheVariants.{BadField}
use Rattle.update_text.specs.Lines.{field_of, field_start}
use Rattle.update_text.specs.Numbers.{IsNumber}
use Rattle.update_text.specs.Orders.{ActIs, Asks, EntryAt, FirstOff, Flawed, InForm, OneAnswer, SavingForm, Whole, act_word, text_flaw}
use Rattle.update_text.specs.Orders.Flawed.{unfed, uneven, unknown, misformed}
use Rattle.update_text.specs.declared.columns.Columns.{Columns}
use Rattle.update_text.specs.declared.orders.Act.{Act}
use Rattle.update_text.specs.declared.orders.Act.TheVariants.{Add, Off}
use Rattle.update_text.specs.declared.orders.Entry.{Entry}
use Rattle.update_text.specs.declared.orders.Flaw.{Flaw}
use Rattle.update_text.specs.declared.orders.Order.{Order}
use Rattle.update_text.specs.declared.orders.Order.TheVariants as order
use Rattle.update_text.specs.declared.parts.Part.{Part}

pub same_act : (x y : Act) → act_word x ≡ act_word y → x ≡ y
same_act Add Add e = refl
same_act Add Off e = let z : ◌≡◌ {A = ℕ} 97 111 = cc in absurd (omega arith)
same_act Off Add e = let z : ◌≡◌ {A = ℕ} 111 97 = cc in absurd (omega arith)
same_act Off Off e = refl

pub apart : Add ≡ Off → ⊥
apart e = let z : ◌≡◌ {A = ℕ} 0 1 = cc in omega arith

module _ (columns : Columns) (line : Part) where
  one_act : (x y : Act) → ActIs columns line x → ActIs columns line y → x ≡ y
  one_act x y p q = same_act x y (sym p ∙ q)

  not_both : ActIs columns line Add → ActIs columns line Off → ⊥
  not_both p q = apart (one_act Add Off p q)

  one_entry : (place : ℕ) (x y : Entry) → EntryAt line place x → EntryAt line place y → x ≡ y
  one_entry place x y h k =
      let with : ℕ → ℕ → Entry = λ v o. record { value = v; at = o } in
      ap (λ v. with v x.at) (h.value ∙ sym k.value) ∙ ap (λ o. with y.value o) (h.start ∙ sym k.start)

  one_order : (o p : Order) → Asks columns line o → Asks columns line p → o ≡ p
  one_order (order.Add a b saving) (order.Add x y z) h k =
      let ea = one_entry columns.a a x h.1 k.1 in
      let eb = one_entry columns.b b y h.2 k.2 in
      let es = one_entry columns.saving saving z h.3 k.3 in
      cc
  one_order (order.Add a b saving) (order.Off x y) h k = absurd (not_both h.0 k.0)
  one_order (order.Off a b) (order.Add x y z) h k = absurd (not_both k.0 h.0)
  one_order (order.Off a b) (order.Off x y) h k =
      let ea = one_entry columns.a a x h.1 k.1 in let eb = one_entry columns.b b y h.2 k.2 in cc

  -- the fields of a line that asks for something are in form
  fields_form : (act : Act) → IsNumber (field_of line columns.a) → IsNumber (field_of line columns.b) → SavingForm act (field_of line columns.saving) → (place : ℕ) → InForm columns act place (field_of line place)
  fields_form act a b saving place = record {
    a = λ e. subst IsNumber (sym (ap (field_of line) e)) a;
    b = λ e. subst IsNumber (sym (ap (field_of line) e)) b;
    saving = λ e. subst (SavingForm act) (sym (ap (field_of line) e)) saving;
  }

  asks_form : (o : Order) (act : Act) → Asks columns line o → ActIs columns line act → (place : ℕ) → InForm columns act place (field_of line place)
  asks_form (order.Add a b saving) Add h is = fields_form Add h.1.number h.2.number h.3.number
  asks_form (order.Add a b saving) Off h is = absurd (not_both h.0 is)
  asks_form (order.Off a b) Add h is = absurd (not_both is h.0)
  asks_form (order.Off a b) Off h is = fields_form Off h.1.number h.2.number h.3

  act_known : (o : Order) → Asks columns line o → ((act : Act) → ActIs columns line act → ⊥) → ⊥
  act_known (order.Add a b saving) h none = none Add h.0
  act_known (order.Off a b) h none = none Off h.0

  not_flawed : {e : Flaw} (o : Order) → Whole line → Asks columns line o → Flawed columns line e → ⊥
  not_flawed o whole h (unfed unmarked) = both_ways _ unmarked whole.fed
  not_flawed o whole h (uneven fed other) = other whole.four
  not_flawed o whole h (unknown w none) = act_known o h none
  not_flawed o whole h (misformed w act is place first) = first.off (asks_form o act h is place)

  -- a field before the first that is not in form is in form
  not_before : (x y : Act) → ActIs columns line x → ActIs columns line y → (i j : ℕ) → FirstOff columns x line i → FirstOff columns y line j → i < j → ⊥
  not_before x y p q i j h k lt = h.off (subst (λ act. InForm columns act i (field_of line i)) (one_act y x q p) (k.before i lt))

  one_flaw : {d e : Flaw} → Flawed columns line d → Flawed columns line e → d ≡ e
  one_flaw (unfed p) (unfed q) = refl
  one_flaw (unfed p) (uneven q n) = absurd (both_ways _ p q)
  one_flaw (unfed p) (unknown w n) = absurd (both_ways _ p w.fed)
  one_flaw (unfed p) (misformed w act is place first) = absurd (both_ways _ p w.fed)
  one_flaw (uneven p n) (unfed q) = absurd (both_ways _ q p)
  one_flaw (uneven p n) (uneven q m) = refl
  one_flaw (uneven p n) (unknown w m) = absurd (n w.four)
  one_flaw (uneven p n) (misformed w act is place first) = absurd (n w.four)
  one_flaw (unknown w n) (unfed q) = absurd (both_ways _ q w.fed)
  one_flaw (unknown w n) (uneven q m) = absurd (m w.four)
  one_flaw (unknown w n) (unknown v m) = refl
  one_flaw (unknown w n) (misformed v act is place first) = absurd (n act is)
  one_flaw (misformed w act is place first) (unfed q) = absurd (both_ways _ q w.fed)
  one_flaw (misformed w act is place first) (uneven q m) = absurd (m w.four)
  one_flaw (misformed w act is place first) (unknown v m) = absurd (m act is)
  one_flaw (misformed w x p i h) (misformed v y q j k) =
      let ij : i < j → ⊥ = not_before x y p q i j h k in
      let ji : j < i → ⊥ = not_before y x q p j i k h in
      let same : i ≡ j = omega arith in
      ap (λ place. text_flaw (field_start line place) BadField) same

pub one_answer : OneAnswer
one_answer columns line (Ok o) (Ok p) h k = ap Ok (one_order columns line o p h.1 k.1)
one_answer columns line (Ok o) (Err e) h k = absurd (not_flawed columns line o h.0 h.1 k)
one_answer columns line (Err d) (Ok p) h k = absurd (not_flawed columns line p k.0 k.1 h)
one_answer columns line (Err d) (Err e) h k = ap Err (one_flaw columns line h k)
