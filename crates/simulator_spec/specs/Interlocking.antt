-- What the interlocking does in the world: a step, and being made anew.
use Rattle.std.specs.Prelude.{ℕ, zero, suc, ◌*◌, ◌==◌, ◌&&◌, Bool, List, [], ◌∷◌, ◌++◌, length, Option, Some, None, slice_index_or, slice_set, unwrap_or, if◌then◌else◌}
use Rattle.std.specs.List.{position}
use Rattle.ixl_spec.specs.layout.Entries.{Site}
use Rattle.ixl_spec.specs.rasta_pdu.Header.{is_request, receiver_of}
use Rattle.ixl_spec.specs.rasta_core.Ends.{handed_out, reading_of}
use Rattle.ixl_spec.specs.rasta_core.Links.{OnLink, sent_on}
use Rattle.ixl_spec.specs.rasta_core.Outbox.{OutboxState}
use Rattle.ixl_spec.specs.rasta_core.identity.Role.TheVariants as role
use Rattle.ixl_spec.specs.StepSoFar.{StepSoFar, begun_with, empty_outbox}
use Rattle.ixl_spec.specs.State.{IxlState, RouteState}
use Rattle.ixl_spec.specs.Step as ixl
use Rattle.ixl_spec.specs.Table.{Table}
use Rattle.ixl_spec.specs.View.{authority_from, is_holding}
use Rattle.simulator_event.specs.declared.snapshot.Held.{Held}
use Rattle.simulator_spec.specs.Nodes.{key_of, partners}
use Rattle.simulator_spec.specs.State.{ClockedInterlockingState}

-- ---- a step

-- what a step does at the interlocking's clock
abbrev pub interlocking_step : Site → Table → ixl.Input → ClockedInterlockingState → StepSoFar
interlocking_step site table input interlocking =
    ixl.stepped (reading_of interlocking.clock) table (key_of site) input (begun_with interlocking.ixl empty_outbox)

abbrev pub interlocking_reply : Site → Table → ixl.Input → ClockedInterlockingState → ixl.Reply
interlocking_reply site table input interlocking = ixl.reply (reading_of interlocking.clock) table (key_of site) input interlocking.ixl

-- the link to the controller that a datagram names as its receiver
abbrev pub link_of : Site → List ℕ → ℕ
link_of site bytes = unwrap_or (position (λ id. id == receiver_of bytes) (partners site)) (length (partners site))

-- the connections that were begun on each link, and every datagram that was sent
pub record Sending : Type 0 where
  pub connections : List (Option ℕ)
  pub sent : List OnLink

-- A request begins a connection, which has its number: how many datagrams were sent before it.
abbrev pub begun_by : ℕ → ℕ → List ℕ → List (Option ℕ) → List (Option ℕ)
begun_by link moment bytes connections = if is_request bytes then slice_set connections link (Some moment) else connections

-- a datagram is sent on its link, in the connection that was begun there last
unfoldable pub sending_one : Site → ℕ → List ℕ → Sending → Sending
sending_one site time bytes sending =
    let link = link_of site bytes
    in let connections = begun_by link (length sending.sent) bytes sending.connections
    in record {
      connections = connections;
      sent = sending.sent ++ sent_on link (handed_out time role.Client (slice_index_or connections link None) (bytes ∷ []));
    }

-- one after another
unfoldable pub sending_all : Site → ℕ → List (List ℕ) → Sending → Sending
sending_all site time [] sending = sending
sending_all site time (first ∷ others) sending = sending_all site time others (sending_one site time first sending)

-- ---- what is held

abbrev pub pair_then : ℕ → Option ℕ → List Held → List Held
pair_then signal None others = others
pair_then signal (Some route) others = (record { signal = record { 0 = signal }; route = record { 0 = route } }) ∷ others

-- the routes with authority, each with its signal, for this many signals from a place on
abbrev pub authorities : Table → IxlState → ℕ → ℕ → List Held
authorities table ixl place zero = []
authorities table ixl place (suc more) =
    pair_then place (authority_from place 0 table.rows ixl.routes) (authorities table ixl (suc place) more)

-- The pairs that are held: in the hold the frozen ones, and otherwise each signal with the route that has authority from
-- it; of such a route nothing is freed.
unfoldable pub held_of : Table → ClockedInterlockingState → List Held → List Held
held_of table station frozen =
    if is_holding (reading_of station.clock) station.ixl then frozen else authorities table station.ixl 0 (length station.ixl.known_signals)

-- The pairs that stand for the locks in the hold of an interlocking that is made anew now: inside a hold those of the
-- last stop outside one.
abbrev pub frozen_by_restart : Table → ClockedInterlockingState → List Held → List Held
frozen_by_restart table station frozen = held_of table station frozen

-- it is made anew, with this clock in milliseconds
abbrev pub interlocking_anew : IxlState → ℕ → ClockedInterlockingState → ClockedInterlockingState
interlocking_anew ixl clock station = record station { ixl = ixl; clock = clock * 1000 }
