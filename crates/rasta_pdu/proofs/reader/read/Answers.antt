use Rattle.std.proofs.Common.{◌≡◌, ℕ, List, Result, Ok, Err, sym, ap, ◌∙◌, arith}
use Rattle.std.specs.Prelude.{IfOk, IfErr}
use Rattle.rasta_pdu.specs.declared.fault.PduFault.{PduFault}
use Rattle.rasta_pdu.specs.declared.key.Key.{Key}
use Rattle.rasta_pdu.specs.declared.pdu.Pdu.{Pdu}
use Rattle.rasta_pdu.specs.Values.{IsPdu}
use Rattle.rasta_pdu.specs.Spelling.{writing}
use Rattle.rasta_pdu.specs.PduRead.{reading}
use Rattle.rasta_pdu.specs.Faults.{IsFault}
use Rattle.rasta_pdu.specs.Values.{IsBytes}
use Rattle.rasta_pdu.proofs.CodecLaws.{reading_found, reading_writing}
use Rattle.rasta_pdu.proofs.FaultLaws.{reading_fault, fault_told}
use Rattle.rasta_pdu.proofs.reader.read.Goals as goal

found : (key : Key) (bytes : List ℕ) (r : Result Pdu PduFault) → IsBytes bytes → r ≡ reading key bytes → IfOk r (λ pdu. IsPdu pdu × (bytes ≡ writing key pdu))
found key bytes (Ok pdu) fits e = reading_found key bytes pdu fits (sym e)
found key bytes (Err fault) fits e = tt

first_fault : (key : Key) (bytes : List ℕ) (r : Result Pdu PduFault) → r ≡ reading key bytes → IfErr r (IsFault key bytes)
first_fault key bytes (Ok pdu) e = tt
first_fault key bytes (Err fault) e = reading_fault key bytes fault (sym e)

pub returns-clause-found : goal.returns-clause-found
returns-clause-found c = found c.args.key.now c.args.bytes.now c.read_value.result (λ i. omega (arith, c.type_inv.bytes i)) c.read_value.ensures

pub returns-clause-only : goal.returns-clause-only
returns-clause-only c = λ pdu is e. c.read_value.ensures ∙ ap (reading c.args.key.now) e ∙ reading_writing c.args.key.now pdu is

pub returns-clause-fault : goal.returns-clause-fault
returns-clause-fault c = first_fault c.args.key.now c.args.bytes.now c.read_value.result c.read_value.ensures

pub returns-clause-each : goal.returns-clause-each
returns-clause-each c = λ fault is. c.read_value.ensures ∙ fault_told c.args.key.now c.args.bytes.now (λ i. omega (arith, c.type_inv.bytes i)) fault is
