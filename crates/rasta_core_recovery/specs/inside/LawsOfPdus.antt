-- PDUs are written and read back.
use Rattle.std.specs.Prelude.{List, Ok, ℕ, ◌≡◌}
use Rattle.rasta_core_spec.specs.Each.{Each}
use Rattle.rasta_core_spec.specs.Ends.{Call, outcome}
use Rattle.rasta_core_spec.specs.Events.{MayCall}
use Rattle.rasta_core_spec.specs.Names.{Names}
use Rattle.rasta_core_spec.specs.PduRead.{reading}
use Rattle.rasta_core_spec.specs.Run.{Ends, end_of}
use Rattle.rasta_core_spec.specs.SafetyCode.{IsIntact}
use Rattle.rasta_core_spec.specs.Spelling.{writing}
use Rattle.rasta_core_spec.specs.Values.{IsPdu}
use Rattle.rasta_core_spec.specs.identity.Role.{Role}
use Rattle.rasta_core_spec.specs.key.Key.{Key}
use Rattle.rasta_core_spec.specs.pdu.Pdu.{Pdu}
use Rattle.rasta_core.specs.Invariant.{Timely}

pub record LawsOfPdus : Type 0 where
  pub written_is_read : (key : Key) (pdu : Pdu) → IsPdu pdu → reading key (writing key pdu) ≡ Ok pdu
  pub read_was_written : (key : Key) (bytes : List ℕ) (pdu : Pdu) → reading key bytes ≡ Ok pdu → IsIntact key bytes
  pub calls_hand_out_pdus : (names : Names) (ends : Ends) (who : Role) (call : Call) → Timely names ends → MayCall names who call ends → Each IsPdu (outcome call ends.moment (end_of who ends)).pdus
