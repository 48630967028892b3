-- Rows that are made by a function, element by element.
use Rattle.std.proofs.Common.{◌≡◌, ℕ, zero, suc, ◌+◌, ◌<◌, ◌≤◌, List, get_or, sym, subst, ⊎_elim, arith}
use denote.Param.Members.{Mut, Called}
use Rattle.std.specs.Array.{IsFromFnResultFrom}
use Rattle.std.proofs.lemmas.Bool.{cases_eq}

-- what each call gives, where no call changes the function
module _ {F B : Type 0} (g : Mut F (ℕ × Unit {0}) B) (f : F) (ys : List B) (P : ℕ → B → Type 0)
    (gives : (i : ℕ) (y : B) (q : F) → Called g f (i, tt) y q → (q ≡ f) × P i y) where
  pub made_each : (i n : ℕ) → IsFromFnResultFrom g f ys i n → (v : ℕ) (d : B) → i ≤ v → v < i + n → P v (get_or ys v d)
  made_each i zero made v d low high = absurd (omega arith)
  made_each i (suc n) (q, y, at, called, rest) v d low high =
      let now = gives i y q called in
      ⊎_elim
      (λ (e : v ≡ i). subst (λ (k : ℕ). P k (get_or ys k d)) (sym e) (subst (P i) (sym (at.1 d)) now.1))
      (λ (ne : v ≡ i → ⊥).
      made_each (i + 1) n (subst (λ (p : F). IsFromFnResultFrom g p ys (i + 1) n) now.0 rest) v d (omega arith) (omega arith))
      (cases_eq v i)
