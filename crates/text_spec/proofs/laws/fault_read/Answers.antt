use Rattle.text_spec.proofs.Again.{has_fault}
use Rattle.text_spec.proofs.Found.{fault_found}
use Rattle.text_spec.proofs.laws.fault_read.Goals as goal

pub returns : goal.returns
returns c = λ text fault. (has_fault text fault, fault_found text fault)
