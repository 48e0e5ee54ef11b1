-- What each call of a link does, from its creation on.
use Rattle.std.specs.Prelude.{◌≡◌, ℕ, ◌≤◌, nat_lt, Bool, List, [], ◌++◌, length, Result, Ok, Err, is_ok, if◌then◌else◌}
use Rattle.rasta_core_link.specs.Parameters.{window_size}
use Rattle.rasta_core_link.specs.State.{LinkState, is_open, is_up}
use Rattle.rasta_core_link.specs.PdusHandedOut.{Step, silent, then_do, entered, beating, giving, closing}
use Rattle.rasta_core_link.specs.Establishment.{may_open, requesting}
use Rattle.rasta_core_link.specs.Receipt.{Receipt, refusing, hearing}
use Rattle.rasta_core_link.specs.declared.identity.Identity.{Identity}
use Rattle.rasta_core_link.specs.declared.phase.Phase.TheVariants as phase
use Rattle.rasta_core_link.specs.declared.reason.Reason.{Reason}
use Rattle.rasta_core_link.specs.declared.verdict.Verdict.TheVariants as verdict
use Rattle.rasta_core_link.specs.declared.fault.SendFault.{SendFault}
use Rattle.rasta_core_link.specs.declared.fault.SendFault.TheVariants as fault
use Rattle.rasta_pdu.specs.PduRead.{reading}
use Rattle.rasta_pdu.specs.declared.pdu.Pdu.{Pdu}
use Rattle.rasta_pdu.specs.declared.fault.PduFault.{PduFault}

-- a new link is closed since its creation
unfoldable pub created : Identity → ℕ → ℕ → LinkState
created identity first_sequence_number now = record {
  identity = identity;
  phase = phase.Closed;
  clock = now;
  closed_at = now;
  own_stamp = 0;
  own_first = first_sequence_number;
  sent = 0;
  sent_at = 0;
  confirmed = 0;
  partner_first = 0;
  opening_stamp = 0;
  expected = 0;
  partner_stamp = 0;
  waiting = [];
  given = 0;
  taken = 0;
}

-- a clock that doesn't fall
abbrev pub MayStep : ℕ → LinkState → Type 0
MayStep now link = link.clock ≤ now

-- after a call at a clock reading the link has that clock, and the identity that it had
pub record IsAt (now : ℕ) (old new : LinkState) : Type 0 where
  pub clock : new.clock ≡ now
  pub identity : new.identity ≡ old.identity

-- the answer of `open`, and what it does
unfoldable pub opens : ℕ → LinkState → Bool
opens now link = may_open (entered now link).link

unfoldable pub opening : ℕ → LinkState → Step
opening now link = then_do (entered now link) (λ l. if may_open l then requesting l else silent l)

unfoldable pub ticking : ℕ → LinkState → Step
ticking now link = then_do (entered now link) beating

unfoldable pub closing_by : ℕ → Reason → LinkState → Step
closing_by now why link = then_do (entered now link) (λ l. if is_open l.phase then closing why l else silent l)

-- whether an item can be sent
unfoldable pub acceptance : LinkState → Result Unit SendFault
acceptance link =
    if is_up link.phase then (if nat_lt (length link.waiting) window_size then Ok tt else Err fault.WindowFull)
    else Err fault.NotUp

-- the answer of `send`, and what it does
unfoldable pub answer_to_send : ℕ → LinkState → Result Unit SendFault
answer_to_send now link = acceptance (entered now link).link

unfoldable pub sending_item : ℕ → List ℕ → LinkState → Step
sending_item now item link = then_do (entered now link) (λ l. if is_ok (acceptance l) then giving item l else silent l)

-- bytes that are no PDU are refused with what is wrong with them
unfoldable pub hearing_bytes : Result Pdu PduFault → LinkState → Receipt
hearing_bytes (Err fault) link = refusing (verdict.Unreadable fault) link
hearing_bytes (Ok pdu) link = hearing pdu link

unfoldable pub receiving : ℕ → List ℕ → LinkState → Receipt
receiving now bytes link =
    let begun = entered now link
    in let heard = hearing_bytes (reading link.identity.key bytes) begun.link
    in record heard { pdus = begun.pdus ++ heard.pdus }
