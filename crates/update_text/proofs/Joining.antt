-- Cutting a list of bytes into parts, and joining parts.
use Rattle.std.proofs.Common.{◌≡◌, ℕ, zero, suc, ◌<◌, true, false, cond, eqb, List, [], ◌∷◌, ◌++◌, length, refl, ap, ◌∙◌, arith}
use Rattle.std.specs.List.{AllByRecursion}
use Rattle.std.proofs.lemmas.Bool.{cond_both, cond-false, cond-true, eq-eqb, eqb-false, eqb-true, ne_eqb}
use Rattle.update_text.specs.Cuts.{Free, cut, joined, widened}

pub cut_free : (mark : ℕ) (bytes : List ℕ) → Free mark bytes → cut mark bytes ≡ bytes ∷ []
unfolding cut
cut_free mark [] free = refl
cut_free mark (c ∷ cs) free =
    cond-false _ _ _ (ne_eqb c mark (free 0 (omega arith))) ∙ ap (widened c) (cut_free mark cs (λ i lt. free (suc i) (omega arith)))

pub cut_first : (mark : ℕ) (front rest : List ℕ) → Free mark front → cut mark (front ++ mark ∷ rest) ≡ front ∷ cut mark rest
unfolding cut
cut_first mark [] rest free = cond-true _ _ _ (eq-eqb mark mark refl)
cut_first mark (c ∷ cs) rest free =
    cond-false _ _ _ (ne_eqb c mark (free 0 (omega arith))) ∙ ap (widened c) (cut_first mark cs rest (λ i lt. free (suc i) (omega arith)))

widened_some : (c : ℕ) (ps : List (List ℕ)) → 0 < length (widened c ps)
widened_some c [] = omega arith
widened_some c (p ∷ ps) = omega arith

pub cut_some : (mark : ℕ) (bytes : List ℕ) → 0 < length (cut mark bytes)
unfolding cut
cut_some mark [] = omega arith
cut_some mark (c ∷ cs) =
    elim (eqb c mark) as (λ b. 0 < length (cond b ([] ∷ cut mark cs) (widened c (cut mark cs)))) [ true ↦ omega arith | false ↦ widened_some c (cut mark cs) ]

pub cut_joined : (mark : ℕ) (ps : List (List ℕ)) → 0 < length ps → AllByRecursion (Free mark) ps → cut mark (joined mark ps) ≡ ps
cut_joined mark [] some free = absurd (omega arith)
cut_joined mark (p ∷ []) some free = cut_free mark p free.0
cut_joined mark (p ∷ q ∷ ps) some free =
    cut_first mark p (joined mark (q ∷ ps)) free.0 ∙ ap (λ l. p ∷ l) (cut_joined mark (q ∷ ps) (omega arith) free.1)

joined_first : (mark : ℕ) (ps : List (List ℕ)) → 0 < length ps → joined mark ([] ∷ ps) ≡ mark ∷ joined mark ps
joined_first mark [] some = absurd (omega arith)
joined_first mark (p ∷ ps) some = refl

joined_widened : (mark c : ℕ) (ps : List (List ℕ)) → 0 < length ps → joined mark (widened c ps) ≡ c ∷ joined mark ps
joined_widened mark c [] some = absurd (omega arith)
joined_widened mark c (p ∷ []) some = refl
joined_widened mark c (p ∷ q ∷ ps) some = refl

pub joined_cut : (mark : ℕ) (bytes : List ℕ) → joined mark (cut mark bytes) ≡ bytes
unfolding cut
joined_cut mark [] = refl
joined_cut mark (c ∷ cs) =
    let some = cut_some mark cs in
    let rest = joined_cut mark cs in
    cond_both (eqb c mark) ([] ∷ cut mark cs) (widened c (cut mark cs)) (λ ps. joined mark ps ≡ c ∷ cs)
    (λ e. joined_first mark (cut mark cs) some ∙ let is = eqb-true c mark e in cc)
    (λ _. joined_widened mark c (cut mark cs) some ∙ ap (λ l. c ∷ l) rest)

free_more : (mark c : ℕ) (p : List ℕ) → (c ≡ mark → ⊥) → Free mark p → Free mark (c ∷ p)
free_more mark c p other free zero lt is = other is
free_more mark c p other free (suc i) lt is = free i (omega arith) is

widened_free : (mark c : ℕ) (ps : List (List ℕ)) → (c ≡ mark → ⊥) → AllByRecursion (Free mark) ps → AllByRecursion (Free mark) (widened c ps)
widened_free mark c [] other free = (free_more mark c [] other (λ i lt is. absurd (omega arith)), tt)
widened_free mark c (p ∷ ps) other free = (free_more mark c p other free.0, free.1)

pub free_cut : (mark : ℕ) (bytes : List ℕ) → AllByRecursion (Free mark) (cut mark bytes)
unfolding cut
free_cut mark [] = (λ i lt is. absurd (omega arith), tt)
free_cut mark (c ∷ cs) =
    cond_both (eqb c mark) ([] ∷ cut mark cs) (widened c (cut mark cs)) (AllByRecursion (Free mark))
    (λ e. (λ i lt is. absurd (omega arith), free_cut mark cs))
    (λ e. widened_free mark c (cut mark cs) (eqb-false c mark e) (free_cut mark cs))
