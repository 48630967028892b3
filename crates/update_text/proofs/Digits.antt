-- Digits read one by one, and short lists by their places.
use Rattle.std.proofs.Common.{◌≡◌, ℕ, ◌+◌, ◌-◌, ◌*◌, ◌^◌, ◌<◌, ◌≤◌, List, [], ◌∷◌, ◌++◌, length, get_or, take, decimal, refl, ap, ◌∙◌, ⊎_elim, arith, length-take-le, get_or-take, rules}
use Rattle.std.proofs.lemmas.List.{take_more}
use Rattle.std.proofs.lemmas.Fmt.{decimal_digit, decimal_nonempty, digits_decimal, first_decimal, length-decimal-le, digits_value-decimal}
use Rattle.std.proofs.lemmas.Bool.{cases_eq}
use Rattle.std.proofs.lemmas.Str.Parse.{IsNumeralModel, numerals_by_fold, tells_by_index, digits_value_short}
use Rattle.update_text.specs.Numbers.{Digit, IsNumber, read_on}

read_on_push : (n : ℕ) (xs : List ℕ) (c : ℕ) → read_on n (xs ++ c ∷ []) ≡ 10 * read_on n xs + (c - 48)
read_on_push n [] c = refl
read_on_push n (x ∷ xs) c = read_on_push (10 * n + (x - 48)) xs c

pub read_on_more : (bs : List ℕ) (i : ℕ) → i < length bs → read_on 0 (take (i + 1) bs) ≡ 10 * read_on 0 (take i bs) + (get_or bs i 0 - 48)
read_on_more bs i lt = ap (read_on 0) (take_more bs i 0 lt) ∙ read_on_push 0 (take i bs) (get_or bs i 0)

pub plain_digits : IsNumeralModel (λ ds. (i : ℕ) → i < length ds → Digit (get_or ds i 0)) (read_on 0)
plain_digits = numerals_by_fold _ tells_by_index read_on (search rules)

-- at most six digits are below a million
pub small : (bs : List ℕ) (i : ℕ) → i < length bs → length bs ≤ 7 → ((k : ℕ) → k < i → Digit (get_or bs k 0)) → read_on 0 (take i bs) < 1000000
small bs i lt short ds =
    let is : length (take i bs) ≡ i = length-take-le i bs (omega arith) in
    digits_value_short plain_digits (take i bs) 6 (λ k h. let low : k < i = omega arith in rw get_or-take (ds k low)) (omega arith)

pub one : (xs : List ℕ) (a : ℕ) → length xs ≡ 1 → get_or xs 0 0 ≡ a → xs ≡ a ∷ []
one [] a n p = absurd (omega arith)
one (x ∷ []) a n p = cc
one (x ∷ y ∷ ys) a n p = absurd (omega arith)

pub three : (xs : List ℕ) (a b c : ℕ) → length xs ≡ 3 → get_or xs 0 0 ≡ a → get_or xs 1 0 ≡ b → get_or xs 2 0 ≡ c → xs ≡ a ∷ b ∷ c ∷ []
three [] a b c n p q r = absurd (omega arith)
three (x ∷ []) a b c n p q r = absurd (omega arith)
three (x ∷ y ∷ []) a b c n p q r = absurd (omega arith)
three (x ∷ y ∷ z ∷ []) a b c n p q r = cc
three (x ∷ y ∷ z ∷ w ∷ ws) a b c n p q r = absurd (omega arith)

-- what is written without leading zeros is a number
pub decimal_number : (n : ℕ) → n < 10 ^ 7 → IsNumber (decimal n)
decimal_number n low =
    let fits : n < 2 ^ 64 = omega arith in
    record {
      some = decimal_nonempty n fits;
      short = length-decimal-le 7 n (omega arith) low fits;
      digits = digits_decimal plain_digits n fits;
      plain = λ zero. ⊎_elim (λ z. ap (λ m. length (decimal m)) z ∙ ap length (decimal_digit 0 (omega arith))) (λ nz. absurd (omega (arith, first_decimal n (omega arith) fits))) (cases_eq n 0);
    }

pub decimal_value : (n : ℕ) → n < 10 ^ 7 → read_on 0 (decimal n) ≡ n
decimal_value n low = digits_value-decimal plain_digits n (omega arith)
