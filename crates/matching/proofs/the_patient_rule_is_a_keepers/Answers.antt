use Rattle.matching.proofs.Patient.{patient_keeps}
use Rattle.matching.proofs.the_patient_rule_is_a_keepers.Goals as goal

pub returns : goal.returns
returns c = patient_keeps
