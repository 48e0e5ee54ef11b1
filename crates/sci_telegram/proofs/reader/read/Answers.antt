use Rattle.std.proofs.Common.{◌≡◌, ℕ, List, Result, Ok, Err, sym, ap, ◌∙◌, arith}
use Rattle.std.specs.Prelude.{IfOk, IfErr}
use Rattle.rasta_pdu.specs.Values.{IsBytes}
use Rattle.sci_telegram.specs.declared.fault.SciFault.{SciFault}
use Rattle.sci_telegram.specs.declared.telegram.Telegram.{Telegram}
use Rattle.sci_telegram.specs.Telegrams.{IsTelegram, writing}
use Rattle.sci_telegram.specs.TelegramRead.{reading}
use Rattle.sci_telegram.specs.Faults.{IsFault}
use Rattle.sci_telegram.proofs.Codec.{read_takes, read_again}
use Rattle.sci_telegram.proofs.FaultLaws.{fault_means, fault_told}
use Rattle.sci_telegram.proofs.reader.read.Goals as goal

found : (bytes : List ℕ) (r : Result Telegram SciFault) → IsBytes bytes → r ≡ reading bytes → IfOk r (λ telegram. IsTelegram telegram × (bytes ≡ writing telegram))
found bytes (Ok telegram) fits e = read_takes bytes telegram fits (sym e)
found bytes (Err fault) fits e = tt

first_fault : (bytes : List ℕ) (r : Result Telegram SciFault) → r ≡ reading bytes → IfErr r (IsFault bytes)
first_fault bytes (Ok telegram) e = tt
first_fault bytes (Err fault) e = fault_means bytes fault (sym e)

pub returns-clause-found : goal.returns-clause-found
returns-clause-found c = found c.args.bytes.now c.read_value.result (λ i. omega (arith, c.type_inv.bytes i)) c.read_value.ensures

pub returns-clause-only : goal.returns-clause-only
returns-clause-only c = λ telegram is e. c.read_value.ensures ∙ ap reading e ∙ read_again telegram is

pub returns-clause-fault : goal.returns-clause-fault
returns-clause-fault c = first_fault c.args.bytes.now c.read_value.result c.read_value.ensures

pub returns-clause-each : goal.returns-clause-each
returns-clause-each c = λ fault is. c.read_value.ensures ∙ fault_told c.args.bytes.now fault is
