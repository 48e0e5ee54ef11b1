-- How a connection opens.
use Rattle.std.specs.Prelude.{◌==◌, ◌&&◌, Bool, true, false, [], nat_eq, if◌then◌else◌}
use Rattle.std.specs.Cmp.Lexicographic.{pointwise}
use Rattle.rasta_core_link.specs.Parameters.{own_version, no_reserved, window_size}
use Rattle.rasta_core_link.specs.Sequence.{wire}
use Rattle.rasta_core_link.specs.State.{LinkState, is_client}
use Rattle.rasta_core_link.specs.Clock.{state_at}
use Rattle.rasta_core_link.specs.PdusHandedOut.{Step, sending, telling}
use Rattle.rasta_core_link.specs.declared.phase.Phase.TheVariants as phase
use Rattle.rasta_core_link.specs.declared.phase.State.{State}
use Rattle.rasta_core_link.specs.declared.phase.State.TheVariants as state
use Rattle.rasta_core_link.specs.declared.reason.Reason.TheVariants as reason
use Rattle.rasta_pdu.specs.declared.pdu.Pdu.{Pdu}
use Rattle.rasta_pdu.specs.declared.body.Opening.{Opening}
use Rattle.rasta_pdu.specs.declared.body.Body.TheVariants.{ConnectionRequest, ConnectionResponse, Heartbeat}

-- what an end writes into a request or a response
abbrev pub own_opening : Opening
own_opening = record { version = own_version; window = window_size; reserved = no_reserved }

abbrev pub is_down : State → Bool
is_down state.Down = true
is_down _ = false

-- a client may open where it is down
abbrev pub may_open : LinkState → Bool
may_open link = is_client link.identity.role && is_down (state_at link.clock link)

-- a connection begins: its counts start anew, and the own sequence numbers go on
unfoldable pub beginning : LinkState → LinkState
beginning link = record link {
  phase = phase.Start;
  own_stamp = link.clock;
  own_first = wire link.own_first link.sent;
  sent = 0;
  confirmed = 0;
  partner_first = 0;
  opening_stamp = 0;
  expected = 0;
  partner_stamp = 0;
  waiting = [];
  given = 0;
  taken = 0;
}

-- a client asks for a connection
unfoldable pub requesting : LinkState → Step
requesting link = sending (ConnectionRequest own_opening) (beginning link)

-- the partner's first PDU of the connection is taken
unfoldable pub meeting : Pdu → LinkState → LinkState
meeting pdu link = record link {
  partner_first = pdu.sequence_number;
  opening_stamp = pdu.time_stamp;
  expected = 1;
  partner_stamp = pdu.time_stamp;
}

-- an opening of another version, or of another window, closes; the version is looked at first
unfoldable pub judging : Opening → (LinkState → Step) → LinkState → Step
judging opening agreed link =
    if pointwise nat_eq opening.version own_version then (
    if opening.window == window_size then agreed link else telling reason.Window link
    )
    else telling reason.Version link

-- a server takes a request
unfoldable pub granting : Pdu → Opening → LinkState → Step
granting pdu opening link = judging opening (sending (ConnectionResponse own_opening)) (meeting pdu (beginning link))

-- a client takes the response, and sends a heartbeat at once
unfoldable pub joining : Pdu → Opening → LinkState → Step
joining pdu opening link = judging opening (sending Heartbeat) (record (meeting pdu link) { phase = phase.Up })
