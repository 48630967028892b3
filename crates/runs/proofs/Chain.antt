-- The example, by computing with the patient rule.
use Rattle.std.proofs.Common.{refl, arith}
use Rattle.proposals.specs.Levels.{level_of}
use Rattle.matching.specs.Matching.{has, shares, same, kept_from, kept}
use Rattle.matching.specs.Meanings.{bare}
use Rattle.matching.specs.Rules.{blocked, offers, patient_put, patient_take}
use Rattle.matching.specs.Figures.{proposal, pair}
use Rattle.matching.proofs.Patient.{patient_keeps}
use Rattle.matching.proofs.Telling.{bare_lawful}
use Rattle.runs.specs.Runs.Run.{none, more}
use Rattle.runs.specs.Runs.Step.{refuses, proposes, withdraws, sums, partners, lists}
use Rattle.runs.specs.Example.{Example}

pub example : Example
unfolding kept kept_from level_of has shares same blocked offers
example =
    let p₁ = proposal 0 1 1 tt tt tt in
    let p₂ = proposal 1 2 2 tt tt tt in
    let p₃ = proposal 2 3 4 tt tt tt in
    let p₄ = proposal 3 4 8 tt tt tt in
    let m₀ = bare 5 4 in
    let m₁ = patient_put m₀ p₁ in
    let m₂ = patient_put m₁ p₂ in
    let m₃ = patient_put m₂ p₃ in
    let m₄ = patient_put m₃ p₄ in
    let m₅ = patient_take m₄ (pair 3 4 tt) in
    let h₀ = bare_lawful 5 4 (omega arith) (omega arith) (omega arith) in
    let s₁ = (patient_keeps m₀ h₀).puts p₁ refl in
    let s₂ = (patient_keeps m₁ s₁.lawful).puts p₂ refl in
    let s₃ = (patient_keeps m₂ s₂.lawful).puts p₃ refl in
    let s₄ = (patient_keeps m₃ s₃.lawful).puts p₄ refl in
    let s₅ = (patient_keeps m₄ s₄.lawful).takes (pair 3 4 tt) refl in (
      h₀,
      (
        m₄,
        m₅,
        more (proposes refl s₁) (more sums
            (more (proposes refl s₂) (more sums
            (more (proposes refl s₃) (more sums
            (more (proposes refl s₄) (more sums none))))))),
        more (lists refl) (more (partners refl) (more (partners refl) (more (refuses refl)
            (more (refuses refl) (more (refuses refl) (more (refuses refl) (more (refuses refl) (more (refuses refl)
            (more (withdraws refl s₅) (more sums none)))))))))),
      ),
    )
