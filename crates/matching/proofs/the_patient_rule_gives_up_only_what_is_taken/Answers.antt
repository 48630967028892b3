use Rattle.matching.proofs.Patient.{patient_is_patient}
use Rattle.matching.proofs.the_patient_rule_gives_up_only_what_is_taken.Goals as goal

pub returns : goal.returns
returns c = patient_is_patient
