-- The first member that passes a test.
use Rattle.std.proofs.Common.{◌≡◌, ℕ, Bool, true, false, cond, List, [], ◌∷◌, find, Some, Option, sym, refl, ap, ◌∙◌, inl, inr, arith}
use Rattle.std.specs.Option.{option_map}
use Rattle.std.proofs.lemmas.Iterator.Adapters.{option_map_id}
use Rattle.matching.specs.Lists.{◌∈◌, first_of}

-- std's word for it, as a chain of iterators answers it
pub first_find : {X : Type 0} (t : X → Bool) (xs : List X) (r : Option X) → option_map (λ x. x) r ≡ find t xs → r ≡ first_of t xs
first_find {X} t xs r e = sym (option_map_id r) ∙ e ∙ alike xs
  where
    alike : (ys : List X) → find t ys ≡ first_of t ys
    alike [] = refl
    alike (y ∷ ys) = ap (cond (t y) (Some y)) (alike ys)

-- the first that passes is a member that passes
pub first_in : {X : Type 0} (t : X → Bool) (xs : List X) (x : X) → first_of t xs ≡ Some x → (x ∈ xs) × (t x ≡ true)
first_in t [] x e = let never : ◌≡◌ {A = ℕ} 0 1 = cc in absurd (omega arith)
first_in {X} t (y ∷ xs) x e = go (t y) refl e (first_in t xs x)
  where
    go : (b : Bool) → t y ≡ b → cond b (Some y) (first_of t xs) ≡ Some x → (first_of t xs ≡ Some x → (x ∈ xs) × (t x ≡ true)) → (x ∈ (y ∷ xs)) × (t x ≡ true)
    go true h k ih = let same : y ≡ x = cc in (inl (sym same), ap t (sym same) ∙ h)
    go false h k ih = let r = ih k in (inr r.0, r.1)
