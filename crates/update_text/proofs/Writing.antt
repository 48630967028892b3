-- A line that was written reads back as what it was written from.
use Rattle.std.proofs.Common.{◌≡◌, ℕ, zero, suc, ◌^◌, ◌<◌, Bool, true, not, ◌&&◌, eqb, ◌⊎◌, List, [], ◌∷◌, length, get_or, Ok, Err, codes, decimal, Result, sym, refl, ap, ◌∙◌, subst, inl, inr, arith, MatchResult}
use Rattle.std.specs.List.{AllByRecursion}
use Rattle.std.proofs.lemmas.Bool.{both_ways, cond_both, cond-false, cond-true, eq-eqb, ne_eqb}
use Rattle.std.proofs.lemmas.Bool.Decides.{nat_tests}
use Rattle.update_text.specs.Cuts.{Free, cut}
use Rattle.update_text.specs.Fields.{hyphen}
use Rattle.update_text.specs.Lines.{field_of, fields_of}
use Rattle.update_text.specs.Names.{NamesLine, Placing}
use Rattle.update_text.specs.Numbers.{IsNumber, read_on}
use Rattle.update_text.specs.Orders.{Answered, Asks, EntryAt, Flawed, InForm, SavingForm, act_word}
use Rattle.update_text.specs.Orders.Flawed.{unfed, uneven, unknown, misformed}
use Rattle.update_text.specs.Writing.{ReadsBack, Wish, Writable, Writes, act_of, first_of, in_column, names_row, row, saving_of, second_of, wish_of, wish_row}
use Rattle.update_text.specs.Writing.Wish.{opens, closes}
use Rattle.update_text.specs.declared.columns.Columns.{Columns}
use Rattle.update_text.specs.declared.orders.Act.{Act}
use Rattle.update_text.specs.declared.orders.Act.TheVariants.{Add, Off}
use Rattle.update_text.specs.declared.orders.Entry.{Entry}
use Rattle.update_text.specs.declared.orders.Flaw.{Flaw}
use Rattle.update_text.specs.declared.orders.Order.{Order}
use Rattle.update_text.specs.declared.orders.Order.TheVariants as order
use Rattle.update_text.specs.declared.parts.Part.{Part}
use Rattle.update_text.proofs.Answering.{apart, same_act}
use Rattle.update_text.proofs.Digits.{decimal_number, decimal_value}
use Rattle.update_text.proofs.Joining.{cut_joined}

module _ (columns : Columns) (act a b saving : List ℕ) where
  row_at : (place : ℕ) → place < 4 → get_or (row columns act a b saving) place [] ≡ in_column columns act a b saving place
  row_at zero low = refl
  row_at (suc zero) low = refl
  row_at (suc (suc zero)) low = refl
  row_at (suc (suc (suc zero))) low = refl
  row_at (suc (suc (suc (suc k)))) low = absurd (omega arith)

  row_free : (mark : ℕ) → Free mark act → Free mark a → Free mark b → Free mark saving → AllByRecursion (Free mark) (row columns act a b saving)
  row_free mark p q r s =
      let each : (place : ℕ) → Free mark (in_column columns act a b saving place) = λ place.
      cond_both (eqb place columns.act) _ _ (Free mark) (λ _. p)
      (λ _. cond_both (eqb place columns.a) _ _ (Free mark) (λ _. q) (λ _. cond_both (eqb place columns.b) _ _ (Free mark) (λ _. r) (λ _. s))) in
      (each 0, (each 1, (each 2, (each 3, tt))))

  module _ (placing : Placing columns) where
    row_act : get_or (row columns act a b saving) columns.act [] ≡ act
    row_act = row_at columns.act placing.act ∙ cond-true _ _ _ (eq-eqb columns.act columns.act refl)

    row_a : get_or (row columns act a b saving) columns.a [] ≡ a
    row_a =
        row_at columns.a placing.a ∙ cond-false _ _ _ (ne_eqb columns.a columns.act (λ e. placing.act_a (sym e))) ∙
        cond-true _ _ _ (eq-eqb columns.a columns.a refl)

    row_b : get_or (row columns act a b saving) columns.b [] ≡ b
    row_b =
        row_at columns.b placing.b ∙ cond-false _ _ _ (ne_eqb columns.b columns.act (λ e. placing.act_b (sym e))) ∙
        cond-false _ _ _ (ne_eqb columns.b columns.a (λ e. placing.a_b (sym e))) ∙ cond-true _ _ _ (eq-eqb columns.b columns.b refl)

    row_saving : get_or (row columns act a b saving) columns.saving [] ≡ saving
    row_saving =
        row_at columns.saving placing.saving ∙ cond-false _ _ _ (ne_eqb columns.saving columns.act (λ e. placing.act_saving (sym e))) ∙
        cond-false _ _ _ (ne_eqb columns.saving columns.a (λ e. placing.a_saving (sym e))) ∙
        cond-false _ _ _ (ne_eqb columns.saving columns.b (λ e. placing.b_saving (sym e)))

-- the two marks, the semicolon and the line feed
abbrev pub Mark : ℕ → Type 0
Mark mark = (mark ≡ 59) ⊎ (mark ≡ 10)

-- no mark in a number
number_free : (mark : ℕ) → Mark mark → (field : List ℕ) → IsNumber field → Free mark field
number_free mark (inl m) field h i lt is = omega (arith, (h.digits i lt).1)
number_free mark (inr m) field h i lt is = omega (arith, (h.digits i lt).0)

-- tested byte by byte
abbrev none : List ℕ → Bool
none [] = true
none (c ∷ cs) = not (eqb c 59) && (not (eqb c 10) && none cs)

word_free : (mark : ℕ) → Mark mark → (field : List ℕ) → none field ≡ true → Free mark field
word_free mark m [] h i lt is = absurd (omega arith)
word_free mark (inl m) (c ∷ cs) h zero lt is = let e = eq-eqb c 59 (is ∙ m) in grind (arith, nat_tests)
word_free mark (inr m) (c ∷ cs) h zero lt is = let e = eq-eqb c 10 (is ∙ m) in grind (arith, nat_tests)
word_free mark m (c ∷ cs) h (suc i) lt is = word_free mark m cs (grind (arith, nat_tests)) i (omega arith) is

act_free : (mark : ℕ) → Mark mark → (act : Act) → Free mark (act_word act)
act_free mark m Add = word_free mark m (codes "add") refl
act_free mark m Off = word_free mark m (codes "off") refl

first_number : (wish : Wish) → Writable wish → IsNumber (decimal (first_of wish))
first_number (opens a b saving) w = decimal_number a w.0
first_number (closes a b) w = decimal_number a w.0

second_number : (wish : Wish) → Writable wish → IsNumber (decimal (second_of wish))
second_number (opens a b saving) w = decimal_number b w.1
second_number (closes a b) w = decimal_number b w.1

saving_form : (wish : Wish) → Writable wish → SavingForm (act_of wish) (saving_of wish)
saving_form (opens a b saving) w = decimal_number saving w.2
saving_form (closes a b) w = refl

saving_free : (mark : ℕ) → Mark mark → (wish : Wish) → Writable wish → Free mark (saving_of wish)
saving_free mark m (opens a b saving) w = number_free mark m (decimal saving) (decimal_number saving w.2)
saving_free mark m (closes a b) w = word_free mark m hyphen refl

entry_value : (line : Part) (place n : ℕ) (e : Entry) → n < 10 ^ 7 → field_of line place ≡ decimal n → EntryAt line place e → e.value ≡ n
entry_value line place n e low is h = h.value ∙ ap (read_on 0) is ∙ decimal_value n low

asks_wish : (columns : Columns) (line : Part) (wish : Wish) (o : Order) → Writable wish → field_of line columns.act ≡ act_word (act_of wish) → field_of line columns.a ≡ decimal (first_of wish) → field_of line columns.b ≡ decimal (second_of wish) → field_of line columns.saving ≡ saving_of wish → Asks columns line o → wish_of o ≡ wish
asks_wish columns line (opens a b saving) (order.Add x y z) w act_is a_is b_is saving_is h =
    let va = entry_value line columns.a a x w.0 a_is h.1 in
    let vb = entry_value line columns.b b y w.1 b_is h.2 in
    let vs = entry_value line columns.saving saving z w.2 saving_is h.3 in
    cc
asks_wish columns line (opens a b saving) (order.Off x y) w act_is a_is b_is saving_is h =
    let same : Add ≡ Off = same_act Add Off (sym act_is ∙ h.0) in absurd (apart same)
asks_wish columns line (closes a b) (order.Add x y z) w act_is a_is b_is saving_is h =
    let same : Add ≡ Off = same_act Add Off (sym h.0 ∙ act_is) in absurd (apart same)
asks_wish columns line (closes a b) (order.Off x y) w act_is a_is b_is saving_is h =
    let va = entry_value line columns.a a x w.0 a_is h.1 in
    let vb = entry_value line columns.b b y w.1 b_is h.2 in
    cc

-- the fields of a line that was written
fields_are : (fields : List (List ℕ)) (line : Part) → 0 < length fields → AllByRecursion (Free 59) fields → Writes fields line → fields_of line ≡ fields
fields_are fields line some free h = ap (cut 59) h.bytes ∙ cut_joined 59 fields some free

-- neither mark in the names and in what is written of a wish
pub names_free : (mark : ℕ) → Mark mark → (columns : Columns) → AllByRecursion (Free mark) (names_row columns)
names_free mark m columns =
    row_free columns _ _ _ _ mark (word_free mark m (codes "act") refl) (word_free mark m (codes "a") refl) (word_free mark m (codes "b") refl) (word_free mark m (codes "saving") refl)

pub wish_free : (mark : ℕ) → Mark mark → (columns : Columns) (wish : Wish) → Writable wish → AllByRecursion (Free mark) (wish_row columns wish)
wish_free mark m columns wish w =
    row_free columns _ _ _ _ mark (act_free mark m (act_of wish)) (number_free mark m _ (first_number wish w)) (number_free mark m _ (second_number wish w)) (saving_free mark m wish w)

names_read : (columns : Columns) (line : Part) → Placing columns → Writes (names_row columns) line → NamesLine columns line
names_read columns line placing h =
    let are : fields_of line ≡ names_row columns = fields_are (names_row columns) line (omega arith) (names_free 59 (inl refl) columns) h in
    record {
      fed = h.fed;
      named = record {
        four = ap length are;
        act = ap (λ fs. get_or fs columns.act []) are ∙ row_act columns _ _ _ _ placing;
        a = ap (λ fs. get_or fs columns.a []) are ∙ row_a columns _ _ _ _ placing;
        b = ap (λ fs. get_or fs columns.b []) are ∙ row_b columns _ _ _ _ placing;
        saving = ap (λ fs. get_or fs columns.saving []) are ∙ row_saving columns _ _ _ _ placing;
      };
    }

module _ (columns : Columns) (wish : Wish) (line : Part) (placing : Placing columns) (w : Writable wish) (h : Writes (wish_row columns wish) line) where
  row_is : fields_of line ≡ wish_row columns wish
  row_is = fields_are (wish_row columns wish) line (omega arith) (wish_free 59 (inl refl) columns wish w) h

  act_is : field_of line columns.act ≡ act_word (act_of wish)
  act_is = ap (λ fs. get_or fs columns.act []) row_is ∙ row_act columns _ _ _ _ placing

  a_is : field_of line columns.a ≡ decimal (first_of wish)
  a_is = ap (λ fs. get_or fs columns.a []) row_is ∙ row_a columns _ _ _ _ placing

  b_is : field_of line columns.b ≡ decimal (second_of wish)
  b_is = ap (λ fs. get_or fs columns.b []) row_is ∙ row_b columns _ _ _ _ placing

  saving_is : field_of line columns.saving ≡ saving_of wish
  saving_is = ap (λ fs. get_or fs columns.saving []) row_is ∙ row_saving columns _ _ _ _ placing

  in_form : (place : ℕ) → InForm columns (act_of wish) place (field_of line place)
  in_form place = record {
    a = λ e. subst IsNumber (sym (ap (field_of line) e ∙ a_is)) (first_number wish w);
    b = λ e. subst IsNumber (sym (ap (field_of line) e ∙ b_is)) (second_number wish w);
    saving = λ e. subst (SavingForm (act_of wish)) (sym (ap (field_of line) e ∙ saving_is)) (saving_form wish w);
  }

  not_flawed : {e : Flaw} → Flawed columns line e → ⊥
  not_flawed (unfed no-feed) = both_ways _ no-feed h.fed
  not_flawed (uneven fed other) = other (ap length row_is)
  not_flawed (unknown whole none) = none (act_of wish) act_is
  not_flawed (misformed whole act is place first) =
      first.off (subst (λ x. InForm columns x place (field_of line place)) (same_act (act_of wish) act (sym act_is ∙ is)) (in_form place))

  answers_wish : (r : Result Order Flaw) → Answered columns line r → MatchResult r (λ o. wish_of o ≡ wish) (λ _. ⊥)
  answers_wish (Ok o) good = asks_wish columns line wish o w act_is a_is b_is saving_is good.1
  answers_wish (Err e) bad = not_flawed bad

pub reads_back : ReadsBack
reads_back columns line placing = (names_read columns line placing, λ wish w h. answers_wish columns wish line placing w h)
