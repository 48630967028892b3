-- A text in form is a list of wishes that was written out, and such a text reads back as the list.
use Rattle.std.proofs.Common.{◌≡◌, ℕ, zero, suc, ◌+◌, ◌^◌, ◌<◌, cond, eqb, List, [], ◌∷◌, ◌++◌, map, length, get_or, take, decimal, sym, refl, ap, ◌∙◌, inl, inr, add-one, arith}
use Rattle.std.specs.List.{AllByRecursion}
use Rattle.std.proofs.lemmas.Fmt as decimals
use Rattle.std.proofs.lemmas.List.{length_push, take_all, take_more}
use Rattle.std.proofs.lemmas.Str.Parse.{digits_value_short}
use Rattle.std.proofs.lemmas.Bool.{cases_eq, cond-false, cond-true, eq-eqb, lt-ltb, ne_eqb}
use Rattle.update_text.specs.Cuts.{Free, joined}
use Rattle.update_text.specs.Lines.{field_of, fields_of}
use Rattle.update_text.specs.Names.{Placing}
use Rattle.update_text.specs.Numbers.{IsNumber, read_on}
use Rattle.update_text.specs.Orders.{Asks, EntryAt, Whole}
use Rattle.update_text.specs.Texts.{lines_of}
use Rattle.update_text.specs.Writing.{TextInForm, ReadsAs, Wish, Writable, WrittenAndRead, WrittenFrom, in_column, lines_out, names_row, row, wish_of, wish_row, written}
use Rattle.update_text.specs.Writing.Wish.{closes}
use Rattle.update_text.specs.declared.columns.Columns.{Columns}
use Rattle.update_text.specs.declared.orders.Entry.{Entry}
use Rattle.update_text.specs.declared.orders.Order.{Order}
use Rattle.update_text.specs.declared.orders.Order.TheVariants as order
use Rattle.update_text.specs.declared.parts.Part.{Part}
use Rattle.update_text.proofs.Digits.{plain_digits}
use Rattle.update_text.proofs.Joining.{cut_joined, joined_cut}
use Rattle.update_text.proofs.Naming.{named_placing}
use Rattle.update_text.proofs.Writing.{names_free, reads_back, wish_free}

-- four fields, each in its column, are the row of the columns
module _ (columns : Columns) (act a b saving : List ℕ) (placing : Placing columns) where
  -- what stands at a place that is not that of the act
  beyond_act : (place : ℕ) → (place ≡ columns.act → ⊥) →
      in_column columns act a b saving place ≡ cond (eqb place columns.a) a (cond (eqb place columns.b) b saving)
  beyond_act place ne = cond-false (eqb place columns.act) _ _ (ne_eqb place columns.act ne)

  beyond_a : (place : ℕ) → (place ≡ columns.act → ⊥) → (place ≡ columns.a → ⊥) → in_column columns act a b saving place ≡ cond (eqb place columns.b) b saving
  beyond_a place ne na = beyond_act place ne ∙ cond-false (eqb place columns.a) _ _ (ne_eqb place columns.a na)

  in_column_lem : (fs : List (List ℕ)) → get_or fs columns.act [] ≡ act → get_or fs columns.a [] ≡ a → get_or fs columns.b [] ≡ b → get_or fs columns.saving [] ≡ saving →
      (place : ℕ) → place < 4 → get_or fs place [] ≡ in_column columns act a b saving place
  in_column_lem fs p q r s place low =
      elim (cases_eq place columns.act) [
        | inl e ↦ ap (λ i. get_or fs i []) e ∙ p ∙ sym (cond-true (eqb place columns.act) _ _ (eq-eqb place columns.act e))
        | inr not-act ↦
            elim (cases_eq place columns.a) [
              | inl e ↦ ap (λ i. get_or fs i []) e ∙ q ∙ sym (beyond_act place not-act ∙ cond-true (eqb place columns.a) _ _ (eq-eqb place columns.a e))
              | inr not_a ↦
                  elim (cases_eq place columns.b) [
                    | inl e ↦ ap (λ i. get_or fs i []) e ∙ r ∙ sym (beyond_a place not-act not_a ∙ cond-true (eqb place columns.b) _ _ (eq-eqb place columns.b e))
                    | inr not-b ↦
                        let e : place ≡ columns.saving = omega (arith, placing.act, placing.a, placing.b, placing.saving, placing.act_a, placing.act_b, placing.act_saving, placing.a_b, placing.a_saving, placing.b_saving) in
                        ap (λ i. get_or fs i []) e ∙ s ∙ sym (beyond_a place not-act not_a ∙ cond-false (eqb place columns.b) _ _ (ne_eqb place columns.b not-b))
                  ]
            ]
      ]

  is_row : (fs : List (List ℕ)) → length fs ≡ 4 → ((place : ℕ) → place < 4 → get_or fs place [] ≡ in_column columns act a b saving place) → fs ≡ row columns act a b saving
  is_row [] four at = absurd (omega arith)
  is_row (f ∷ []) four at = absurd (omega arith)
  is_row (f ∷ g ∷ []) four at = absurd (omega arith)
  is_row (f ∷ g ∷ h ∷ []) four at = absurd (omega arith)
  is_row (f ∷ g ∷ h ∷ k ∷ []) four at = λ i. at 0 (omega arith) i ∷ at 1 (omega arith) i ∷ at 2 (omega arith) i ∷ at 3 (omega arith) i ∷ []
  is_row (f ∷ g ∷ h ∷ k ∷ l ∷ fs) four at = absurd (omega arith)

  -- so the line is that row, joined
  line_is : (line : Part) → length (fields_of line) ≡ 4 → field_of line columns.act ≡ act → field_of line columns.a ≡ a → field_of line columns.b ≡ b →
      field_of line columns.saving ≡ saving → line.bytes.now ≡ joined 59 (row columns act a b saving)
  line_is line four p q r s =
      sym (joined_cut 59 line.bytes.now) ∙ ap (joined 59) (is_row (fields_of line) four (in_column_lem (fields_of line) p q r s))

-- a number is what is written of its value
number_is : (field : List ℕ) → IsNumber field → (decimal (read_on 0 field) ≡ field) × (read_on 0 field < 10 ^ 7)
number_is field h =
    let low : read_on 0 field < 10 ^ 7 = digits_value_short plain_digits field 7 h.digits h.short in
    (decimals.decimal-digits_value plain_digits field h.digits h.some h.plain (omega arith), low)

entry_is : (line : Part) (place : ℕ) (e : Entry) → EntryAt line place e → (field_of line place ≡ decimal e.value) × (e.value < 10 ^ 7)
entry_is line place e h =
    let n = number_is (field_of line place) h.number in
    (sym n.0 ∙ ap decimal (sym h.value), omega (arith, n.1, h.value))

-- a line that asks for something is what is written of that
asked : (columns : Columns) (line : Part) (o : Order) → Placing columns → Whole line → Asks columns line o →
    (line.bytes.now ≡ joined 59 (wish_row columns (wish_of o))) × Writable (wish_of o)
asked columns line (order.Add a b saving) placing whole h =
    let x = entry_is line columns.a a h.1 in
    let y = entry_is line columns.b b h.2 in
    let z = entry_is line columns.saving saving h.3 in
    (line_is columns _ _ _ _ placing line whole.four h.0 x.0 y.0 z.0, (x.1, y.1, z.1))
asked columns line (order.Off a b) placing whole h =
    let x = entry_is line columns.a a h.1 in
    let y = entry_is line columns.b b h.2 in
    (line_is columns _ _ _ _ placing line whole.four h.0 x.0 y.0 h.3, (x.1, y.1))

-- one more line
lines_more : (columns : Columns) (wishes : List Wish) (wish : Wish) → lines_out columns (wishes ++ wish ∷ []) ≡ lines_out columns wishes ++ joined 59 (wish_row columns wish) ∷ []
lines_more columns wishes wish = ap (λ (ls : List (List ℕ)). joined 59 (names_row columns) ∷ ls) (pushed wishes)
  where
    pushed : (ws : List Wish) → map (λ w. joined 59 (wish_row columns w)) (ws ++ wish ∷ []) ≡ map (λ w. joined 59 (wish_row columns w)) ws ++ joined 59 (wish_row columns wish) ∷ []
    pushed [] = refl
    pushed (w ∷ ws) = ap (λ (ls : List (List ℕ)). joined 59 (wish_row columns w) ∷ ls) (pushed ws)

all_push : (wishes : List Wish) (wish : Wish) → AllByRecursion Writable wishes → Writable wish → AllByRecursion Writable (wishes ++ wish ∷ [])
all_push [] wish h w = (w, tt)
all_push (x ∷ xs) wish h w = (h.0, all_push xs wish h.1 w)

module _ (text : List ℕ) (columns : Columns) (n : ℕ) (h : TextInForm text columns n) where
  placed : Placing columns
  placed = named_placing (fields_of h.headed.0) columns h.headed.2.named

  names_line : get_or (lines_of text) 0 [] ≡ joined 59 (names_row columns)
  names_line =
      let line = h.headed.0 in
      let names = h.headed.2.named in
      h.headed.1.bytes ∙ line_is columns _ _ _ _ placed line names.four names.act names.a names.b names.saving

  -- the first lines, up to the k-th after the names line
  front : (k : ℕ) → k < n + 1 → (wishes : List Wish) × (length wishes ≡ k) × AllByRecursion Writable wishes × (take (k + 1) (lines_of text) ≡ lines_out columns wishes)
  front zero low = ([], refl, tt, take_more (lines_of text) 0 [] (omega (arith, h.end.0)) ∙ ap (λ (l : List ℕ). l ∷ []) names_line)
  front (suc k) low =
      let (wishes, count, writable, is) = front k (omega arith) in
      let (line, at, (o, whole, asks)) = h.lines k (omega arith) in
      let (bytes, fits) = asked columns line o placed whole asks in
      let more : take (suc k + 1) (lines_of text) ≡ take (k + 1) (lines_of text) ++ get_or (lines_of text) (k + 1) [] ∷ [] =
      ap (λ i. take (i + 1) (lines_of text)) (sym (add-one k)) ∙ take_more (lines_of text) (k + 1) [] (omega (arith, h.end.0))
      in (
        wishes ++ wish_of o ∷ [],
        omega (arith, length_push wishes (wish_of o)),
        all_push wishes (wish_of o) writable fits,
        more ∙ (λ i. is i ++ (at.bytes ∙ bytes) i ∷ []) ∙ sym (lines_more columns wishes (wish_of o)),
      )

  was_written : WrittenFrom text columns n
  was_written =
      let (wishes, count, writable, is) = front n (omega arith) in
      let lines : lines_of text ≡ lines_out columns wishes ++ [] ∷ [] =
      sym (take_all (n + 1 + 1) (lines_of text) (omega (arith, h.end.0))) ∙ take_more (lines_of text) (n + 1) [] (omega (arith, h.end.0)) ∙ (λ i. is i ++ h.end.1 i ∷ [])
      in
      record {
        wishes = wishes;
        count = count;
        writable = writable;
        placing = placed;
        is = sym (joined_cut 10 text) ∙ ap (joined 10) lines;
      }

-- parts that are free of a mark stay so when they are joined at another
free_append : (mark : ℕ) (xs ys : List ℕ) → Free mark xs → Free mark ys → Free mark (xs ++ ys)
free_append mark [] ys p q i lt is = q i lt is
free_append mark (x ∷ xs) ys p q zero lt is = p 0 (omega arith) is
free_append mark (x ∷ xs) ys p q (suc i) lt is = free_append mark xs ys (λ j low. p (suc j) (omega arith)) q i (omega arith) is

free_cons : (mark c : ℕ) (xs : List ℕ) → (c ≡ mark → ⊥) → Free mark xs → Free mark (c ∷ xs)
free_cons mark c xs ne p zero lt is = ne is
free_cons mark c xs ne p (suc i) lt is = p i (omega arith) is

joined_free : (mark other : ℕ) (ps : List (List ℕ)) → (other ≡ mark → ⊥) → AllByRecursion (Free mark) ps → Free mark (joined other ps)
joined_free mark other [] ne h i lt is = omega arith
joined_free mark other (p ∷ []) ne h i lt is = h.0 i lt is
joined_free mark other (p ∷ q ∷ ps) ne h i lt is =
    free_append mark p (other ∷ joined other (q ∷ ps)) h.0 (free_cons mark other (joined other (q ∷ ps)) ne (joined_free mark other (q ∷ ps) ne h.1)) i lt is

module _ (columns : Columns) (placing : Placing columns) where
  apart : ◌≡◌ {A = ℕ} 59 10 → ⊥
  apart e = omega arith

  wishes_free : (wishes : List Wish) → AllByRecursion Writable wishes → AllByRecursion (Free 10) (map (λ w. joined 59 (wish_row columns w)) wishes ++ [] ∷ [])
  wishes_free [] h = (λ i lt is. omega arith, tt)
  wishes_free (w ∷ ws) h = (joined_free 10 59 (wish_row columns w) apart (wish_free 10 (inr refl) columns w h.0), wishes_free ws h.1)

  lines_are : (wishes : List Wish) → AllByRecursion Writable wishes → lines_of (written columns wishes) ≡ lines_out columns wishes ++ [] ∷ []
  lines_are wishes h =
      cut_joined 10 (lines_out columns wishes ++ [] ∷ []) (omega arith)
      (joined_free 10 59 (names_row columns) apart (names_free 10 (inr refl) columns), wishes_free wishes h)

  -- the line of a wish
  wish_line : (wishes : List Wish) (place : ℕ) → place < length wishes →
      get_or (map (λ w. joined 59 (wish_row columns w)) wishes ++ [] ∷ []) place [] ≡ joined 59 (wish_row columns (get_or wishes place (closes 0 0)))
  wish_line [] place low = absurd (omega arith)
  wish_line (w ∷ ws) zero low = refl
  wish_line (w ∷ ws) (suc place) low = wish_line ws place (omega arith)

  last_line : (wishes : List Wish) → (length (map (λ w. joined 59 (wish_row columns w)) wishes ++ [] ∷ []) ≡ length wishes + 1)
      × (get_or (map (λ w. joined 59 (wish_row columns w)) wishes ++ [] ∷ []) (length wishes) [] ≡ [])
  last_line [] = (refl, refl)
  last_line (w ∷ ws) = let l = last_line ws in (omega (arith, l.0), l.1)

  writable_at : (wishes : List Wish) (place : ℕ) → AllByRecursion Writable wishes → place < length wishes → Writable (get_or wishes place (closes 0 0))
  writable_at [] place h low = absurd (omega arith)
  writable_at (w ∷ ws) zero h low = h.0
  writable_at (w ∷ ws) (suc place) h low = writable_at ws place h.1 (omega arith)

  reads_as : (wishes : List Wish) → AllByRecursion Writable wishes → ReadsAs (written columns wishes) columns wishes
  reads_as wishes h =
      let are = lines_are wishes h in
      let last = last_line wishes in
      let count : length (lines_of (written columns wishes)) ≡ length wishes + 1 + 1 = omega (arith, ap length are, last.0) in
      record {
        names = λ line at.
            (reads_back columns line placing).0 record {
              bytes = sym at.bytes ∙ ap (λ (ls : List (List ℕ)). get_or ls 0 []) are;
              fed = at.fed ∙ lt-ltb 1 (length (lines_of (written columns wishes))) (omega arith);
            };
        wish = λ place line r low at answered.
            (reads_back columns line placing).1 (get_or wishes place (closes 0 0)) (writable_at wishes place h low)
            record {
              bytes =
                  sym at.bytes ∙ ap (λ (ls : List (List ℕ)). get_or ls (place + 1) []) are
                  ∙ ap (λ i. get_or (lines_out columns wishes ++ [] ∷ []) i []) (add-one place) ∙ wish_line wishes place low;
              fed = at.fed ∙ lt-ltb (place + 1 + 1) (length (lines_of (written columns wishes))) (omega arith);
            }
            r answered;
        end = (count, ap (λ (ls : List (List ℕ)). get_or ls (length wishes + 1) []) are ∙ ap (λ i. get_or (lines_out columns wishes ++ [] ∷ []) i []) (add-one (length wishes)) ∙ last.1);
      }

pub written_and_read : WrittenAndRead
written_and_read = (λ columns wishes placing writable. reads_as columns placing wishes writable, was_written)
