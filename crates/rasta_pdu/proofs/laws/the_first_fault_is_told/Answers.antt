use Rattle.rasta_pdu.proofs.FaultLaws.{reading_fault, fault_told}
use Rattle.rasta_pdu.proofs.laws.the_first_fault_is_told.Goals as goal

pub returns : goal.returns
returns c = λ key bytes fault fits. (reading_fault key bytes fault, fault_told key bytes fits fault)
