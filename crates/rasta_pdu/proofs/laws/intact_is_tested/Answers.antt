use Rattle.std.proofs.Common.{refl}
use Rattle.rasta_pdu.specs.SafetyCode.{intact}
use Rattle.rasta_pdu.proofs.Intact.{intact_meaning}
use Rattle.rasta_pdu.proofs.laws.intact_is_tested.Goals as goal

pub returns : goal.returns
returns c = λ key bytes. intact_meaning key bytes (intact key bytes) refl
