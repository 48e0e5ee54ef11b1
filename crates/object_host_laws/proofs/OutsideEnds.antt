-- What an end that is in no connection does with a datagram: it takes no items, and only what it takes opens it.
use Rattle.std.proofs.Common.{◌+◌, ◌≡◌, ℕ, Bool, true, false, not, nat_lt, ◌==◌, if◌then◌else◌, List, [], refl, ap, sym, ◌∙◌, subst}
use Rattle.std.specs.Prelude.{Result, Ok, Err}
use Rattle.std.proofs.lemmas.Bool.{true≢false}
use Rattle.rasta_pdu.specs.PduRead.{reading}
use Rattle.rasta_pdu.specs.declared.body.Body.{Body}
use Rattle.rasta_pdu.specs.declared.body.Body.TheVariants.{ConnectionRequest, ConnectionResponse, RetransmissionRequest, RetransmissionResponse, DisconnectionRequest, Heartbeat, Data, RetransmittedData}
use Rattle.rasta_pdu.specs.declared.fault.PduFault.{PduFault}
use Rattle.rasta_pdu.specs.declared.pdu.Pdu.{Pdu}
use Rattle.rasta_core.specs.Parameters.{quiet_time}
use Rattle.rasta_core.specs.State.{LinkState, is_client, is_open}
use Rattle.rasta_core.specs.Clock.{deadline, settled, state_at}
use Rattle.rasta_core.specs.PdusHandedOut.{Step, entered, limited, silent}
use Rattle.rasta_core.specs.Establishment.{granting}
use Rattle.rasta_core.specs.Receipt.{Receipt, accepting, by_state, hearing, refusing, resting}
use Rattle.rasta_core.specs.Calls.{hearing_bytes, receiving}
use Rattle.rasta_core.specs.phase.State.TheVariants as state
use Rattle.rasta_core.specs.verdict.Verdict.{Verdict}
use Rattle.rasta_core.specs.verdict.Verdict.TheVariants as verdict
use Rattle.rasta_core.specs.Ends.{is_taken}

-- nothing but a taken PDU opens it, and no items come
pub record IsOutsideReceipt (receipt : Receipt) : Type 0 where
  pub no_items : receipt.items ≡ []
  pub taken : is_open receipt.link.phase ≡ true → is_taken receipt.verdict ≡ true

refused : (why : Verdict) (link : LinkState) → is_open link.phase ≡ false → IsOutsideReceipt (refusing why link)
refused why link closed = record { no_items = refl; taken = λ opened. absurd (true≢false (sym opened ∙ closed)) }

accepted : (step : Step) → IsOutsideReceipt (accepting step)
accepted step = record { no_items = refl; taken = λ _. refl }

resting_outside : (body : Body) (pdu : Pdu) (link : LinkState) → is_open link.phase ≡ false → IsOutsideReceipt (resting body pdu link)
unfolding resting
resting_outside (ConnectionRequest opening) pdu link closed = cases (is_client link.identity.role) where
  cases : (b : Bool) → IsOutsideReceipt (if b then refusing verdict.WrongState link else accepting (granting pdu opening link))
  cases true = refused _ link closed
  cases false = accepted (granting pdu opening link)
resting_outside (ConnectionResponse opening) pdu link closed = refused _ link closed
resting_outside RetransmissionRequest pdu link closed = refused _ link closed
resting_outside RetransmissionResponse pdu link closed = refused _ link closed
resting_outside (DisconnectionRequest detail why) pdu link closed = refused _ link closed
resting_outside Heartbeat pdu link closed = refused _ link closed
resting_outside (Data items) pdu link closed = refused _ link closed
resting_outside (RetransmittedData items) pdu link closed = refused _ link closed

by_state_outside : (pdu : Pdu) (link : LinkState) → is_open link.phase ≡ false → IsOutsideReceipt (by_state (state_at link.clock link) pdu link)
unfolding by_state state_at
by_state_outside pdu link closed = rw closed (cases (nat_lt link.clock (deadline link + quiet_time))) where
  cases : (q : Bool) → IsOutsideReceipt (by_state (if q then state.Quiet else state.Down) pdu link)
  cases true = refused _ link closed
  cases false = resting_outside pdu.body pdu link closed

hearing_outside : (pdu : Pdu) (link : LinkState) → is_open link.phase ≡ false → IsOutsideReceipt (hearing pdu link)
unfolding hearing
hearing_outside pdu link closed = cases (pdu.receiver == link.identity.own) (pdu.sender == link.identity.partner) where
  cases : (r s : Bool) → IsOutsideReceipt (if not r then refusing verdict.NotForMe link else if not s then refusing verdict.WrongSender link else by_state (state_at link.clock link) pdu link)
  cases false s = refused _ link closed
  cases true false = refused _ link closed
  cases true true = by_state_outside pdu link closed

bytes_outside : (read : Result Pdu PduFault) (link : LinkState) → is_open link.phase ≡ false → IsOutsideReceipt (hearing_bytes read link)
unfolding hearing_bytes
bytes_outside (Err fault) link closed = refused _ link closed
bytes_outside (Ok pdu) link closed = hearing_outside pdu link closed

pub settled_is : (now : ℕ) (link : LinkState) → is_open link.phase ≡ false → settled now link ≡ record link { clock = now }
unfolding settled
settled_is now link closed = rw closed refl

limited_is : (link : LinkState) → is_open link.phase ≡ false → limited link ≡ silent link
unfolding limited
limited_is link closed = rw closed refl

pub entered_is : (now : ℕ) (link : LinkState) → is_open link.phase ≡ false → entered now link ≡ silent (record link { clock = now })
unfolding entered
entered_is now link closed = ap limited (settled_is now link closed) ∙ limited_is (record link { clock = now }) closed

pub receiving_outside : (now : ℕ) (bytes : List ℕ) (link : LinkState) → is_open link.phase ≡ false → IsOutsideReceipt (receiving now bytes link)
unfolding receiving
receiving_outside now bytes link closed =
    let heard = bytes_outside (reading link.identity.key bytes) (record link { clock = now }) closed
    in let begun : (entered now link).link ≡ record link { clock = now } = ap (λ (s : Step). s.link) (entered_is now link closed)
    in let here = subst (λ l. IsOutsideReceipt (hearing_bytes (reading link.identity.key bytes) l)) (sym begun) heard
    in record { no_items = here.no_items; taken = here.taken }
