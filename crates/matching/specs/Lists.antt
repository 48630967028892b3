-- Words on lists that the definitions of the subject use.
use Rattle.std.specs.Prelude.{◌≡◌, Bool, false, cond, ◌||◌, ◌⊎◌, List, [], ◌∷◌, Some, None, Option, ◌≢◌}

infix 4 ◌∈◌
-- x is a member of the list
abbrev pub ◌∈◌ : {X : Type 0} → X → List X → Type 0
x ∈ [] = ⊥
x ∈ (y ∷ ys) = (x ≡ y) ⊎ (x ∈ ys)

-- what holds of a member and each later one
abbrev pub Pairwise : {X : Type 0} → (X → X → Type 0) → List X → Type 0
Pairwise R [] = Unit {0}
Pairwise {X} R (x ∷ xs) = ((y : X) → y ∈ xs → R x y) × Pairwise R xs

-- no member is there twice
abbrev pub Distinct : {X : Type 0} → List X → Type 0
Distinct xs = Pairwise (λ x y. x ≢ y) xs

-- both lists have the same members
abbrev pub Alike : {X : Type 0} → List X → List X → Type 0
Alike {X} xs ys = (x : X) → (x ∈ xs → x ∈ ys) × (x ∈ ys → x ∈ xs)

-- some member passes the test
abbrev pub any : {X : Type 0} → (X → Bool) → List X → Bool
any test [] = false
any test (x ∷ xs) = test x || any test xs

-- the first member that passes the test
abbrev pub first_of : {X : Type 0} → (X → Bool) → List X → Option X
first_of test [] = None
first_of test (x ∷ xs) = cond (test x) (Some x) (first_of test xs)
