-- What a field is: a word, a number or a hyphen, with its bytes and its place in the text.
use Rattle.std.specs.Prelude.{◌≡◌, ℕ, List, [], ◌∷◌, ◌≢◌}
use Rattle.update_text.specs.Numbers.{IsNumber, read_on}
use Rattle.update_text.specs.declared.fields.Field.{Field}
use Rattle.update_text.specs.declared.fields.Field.TheVariants.{Word, Number, Hyphen}

-- the byte `-`
abbrev pub hyphen : List ℕ
hyphen = 45 ∷ []

abbrev pub bytes_of : Field → List ℕ
bytes_of (Word w o) = w.now
bytes_of (Number n w o) = w.now
bytes_of (Hyphen w o) = w.now

abbrev pub place_of : Field → ℕ
place_of (Word w o) = o
place_of (Number n w o) = o
place_of (Hyphen w o) = o

-- the field f is what the bytes bs, which begin at the byte `at`, read as
abbrev pub Reads : Field → List ℕ → ℕ → Type 0
Reads (Word w o) bs at = (w.now ≡ bs) × (o ≡ at) × (IsNumber bs → ⊥) × (bs ≢ hyphen)
Reads (Number n w o) bs at = (w.now ≡ bs) × (o ≡ at) × IsNumber bs × (n ≡ read_on 0 bs)
Reads (Hyphen w o) bs at = (w.now ≡ bs) × (o ≡ at) × (bs ≡ hyphen)
