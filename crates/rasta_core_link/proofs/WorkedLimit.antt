-- The worked case, computed.
use Rattle.std.proofs.Common.{refl}
use Rattle.rasta_core_link.specs.Clock.{deadline, settled}
use Rattle.rasta_core_link.specs.PdusHandedOut.{header_of, pdu_of, sending, telling, limited, entered, beating}
use Rattle.rasta_core_link.specs.Calls.{created, ticking}
use Rattle.rasta_core_link.specs.Worked.{LimitOfPdus}
use Rattle.rasta_core_link.specs.declared.identity.Identity.{Identity}

pub limit : (identity : Identity) → LimitOfPdus identity
unfolding created deadline settled header_of pdu_of sending telling limited entered beating ticking
limit identity = record { goes_on = refl; beats = refl; closes = refl; tells = refl }
