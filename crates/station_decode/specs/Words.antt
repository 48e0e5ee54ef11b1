-- The words for what stands in PDUs and telegrams as a number: types, reasons, values, faults.
use Rattle.std.specs.Prelude.{ℕ, ◌==◌, if◌then◌else◌, List, codes}
use Rattle.ixl_spec.specs.rasta_pdu.declared.body.Body.{Body}
use Rattle.ixl_spec.specs.rasta_pdu.declared.body.Body.TheVariants.{ConnectionRequest, ConnectionResponse, RetransmissionRequest, RetransmissionResponse, DisconnectionRequest, Heartbeat, Data, RetransmittedData}
use Rattle.ixl_spec.specs.rasta_pdu.declared.fault.PduFault.{PduFault}
use Rattle.ixl_spec.specs.rasta_pdu.declared.fault.PduFault.TheVariants as pdu_faults
use Rattle.ixl_spec.specs.sci_telegram.declared.fault.SciFault.{SciFault}
use Rattle.ixl_spec.specs.sci_telegram.declared.fault.SciFault.TheVariants as sci_faults
use Rattle.ixl_spec.specs.sci_telegram.declared.message.Protocol.{Protocol}
use Rattle.ixl_spec.specs.sci_telegram.declared.message.Protocol.TheVariants as protocols
use Rattle.ixl_spec.specs.sci_telegram.declared.message.Agreement.{Agreement}
use Rattle.ixl_spec.specs.sci_telegram.declared.message.Agreement.TheVariants.{NoMatch, Match}

-- ---- PDUs

-- the type of a PDU
abbrev pub type_words : Body → List ℕ
type_words (ConnectionRequest opening) = codes "connection request"
type_words (ConnectionResponse opening) = codes "connection response"
type_words RetransmissionRequest = codes "retransmission request"
type_words RetransmissionResponse = codes "retransmission response"
type_words (DisconnectionRequest detail reason) = codes "disconnection request"
type_words Heartbeat = codes "heartbeat"
type_words (Data items) = codes "data"
type_words (RetransmittedData items) = codes "retransmitted data"

-- why an end closed, by the number that it tells
abbrev pub reason_words : ℕ → List ℕ
reason_words reason =
    if reason == 0 then codes "wish of the user"
    else if reason == 1 then codes "a PDU that the state does not allow"
    else if reason == 2 then codes "sequence numbers used up"
    else if reason == 3 then codes "time"
    else if reason == 4 then codes "another version"
    else if reason == 5 then codes "another window or the own one full"
    else codes "unknown"

-- why bytes are no PDU: the fault's number and name
abbrev pub pdu_fault_words : PduFault → List ℕ
pdu_fault_words pdu_faults.TooShort = codes "1 TooShort"
pdu_fault_words pdu_faults.Length = codes "2 Length"
pdu_fault_words pdu_faults.Code = codes "3 Code"
pdu_fault_words pdu_faults.BadType = codes "4 BadType"
pdu_fault_words pdu_faults.Body = codes "5 Body"
pdu_fault_words pdu_faults.Items = codes "6 Items"

-- ---- telegrams

-- why an item is no telegram: the fault's number and name
abbrev pub telegram_fault_words : SciFault → List ℕ
telegram_fault_words sci_faults.Short = codes "1 Short"
telegram_fault_words sci_faults.Protocol = codes "2 Protocol"
telegram_fault_words sci_faults.BadType = codes "3 BadType"
telegram_fault_words sci_faults.Length = codes "4 Length"
telegram_fault_words sci_faults.Name = codes "5 Name"
telegram_fault_words sci_faults.Value = codes "6 Value"

abbrev pub protocol_word : Protocol → List ℕ
protocol_word protocols.TrainDetection = codes "SCI-TDS"
protocol_word protocols.LightSignal = codes "SCI-LS"
protocol_word protocols.Point = codes "SCI-P"

abbrev pub agreement_word : Agreement → List ℕ
agreement_word NoMatch = codes "mismatch"
agreement_word Match = codes "match"
