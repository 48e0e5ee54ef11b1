-- What the sentences on two ends speak of: where an end is, and what it takes.
use Rattle.std.specs.Prelude.{◌≡◌, ℕ, ◌≤◌, ◌<◌, true, false, List, Some, Ok}
use Rattle.rasta_core_link.specs.State.{is_open}
use Rattle.rasta_core_link.specs.Clock.{state_at}
use Rattle.rasta_core_link.specs.Receipt.{Receipt}
use Rattle.rasta_core_link.specs.Calls.{receiving}
use Rattle.rasta_core_link.specs.declared.identity.Role.{Role}
use Rattle.rasta_core_link.specs.declared.identity.Role.TheVariants as role
use Rattle.rasta_core_link.specs.declared.phase.State.TheVariants as state
use Rattle.rasta_core_spec.specs.Ends.{Sent, reading_of}
use Rattle.rasta_core_spec.specs.Run.{Ends, end_of}
use Rattle.rasta_pdu.specs.declared.pdu.Pdu.{Pdu}
use Rattle.rasta_pdu.specs.PduRead.{reading}
use Rattle.rasta_core_spec.specs.Events.{Event, Restarts}
use Rattle.rasta_core_spec.specs.Names.{Names}
use Rattle.rasta_pdu.specs.declared.body.Body.{Body}
use Rattle.rasta_pdu.specs.declared.body.Body.TheVariants.{ConnectionRequest}

-- how fresh an item is that an end takes, in microseconds of true time: 1802 ms
abbrev pub freshness : ℕ
freshness = 1802000

-- what an end would do with bytes at its clock
abbrev pub receipt_at : Role → List ℕ → Ends → Receipt
receipt_at who bytes ends = receiving (reading_of (end_of who ends).clock) bytes (end_of who ends).link

abbrev pub IsIn : Role → Ends → Type 0
IsIn who ends = is_open (end_of who ends).link.phase ≡ true

abbrev pub IsOut : Role → Ends → Type 0
IsOut who ends = is_open (end_of who ends).link.phase ≡ false

-- an end that is outside, and quiet no longer
abbrev pub IsDownNow : Role → Ends → Type 0
IsDownNow who ends = state_at (reading_of (end_of who ends).clock) (end_of who ends).link ≡ state.Down

-- an event that doesn't make the client anew
abbrev pub LeavesClient : Event → Type 0
LeavesClient (Restarts role.Client clock first_sequence_number) = ⊥
LeavesClient _ = Unit {0}

abbrev pub IsRequest : Body → Type 0
IsRequest (ConnectionRequest opening) = Unit {0}
IsRequest _ = ⊥

-- An end outside took this datagram: it is a server, and the datagram a request of the client, sent after the server's
-- last close or restart; and the server was in no connection before that began as late.
pub record IsOpening (names : Names) (who : Role) (ends : Ends) (datagram : Sent) : Type 0 where
  pub is_server : who ≡ role.Server
  pub of_client : datagram.sender ≡ role.Client
  pub pdu : Pdu
  pub read : reading names.key datagram.bytes ≡ Ok pdu
  pub is_request : IsRequest pdu.body
  pub sent_after : (end_of who ends).left ≤ datagram.connection
  pub is_new : (connection : ℕ) → (end_of who ends).connection ≡ Some connection → connection < datagram.connection
