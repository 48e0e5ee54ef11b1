-- An event as what it changes around the nodes, and the step of the one node that it tells something.
use Rattle.std.specs.Prelude.{ℕ, List, [], map, Option, Some, None, slice_get, slice_set}
use Rattle.simulator_spec.specs.layout.Entries.{Site}
use Rattle.simulator_spec.specs.rasta_core.Links.{OnLink, without_oldest_of_all}
use Rattle.simulator_spec.specs.rasta_core.Outbox.{spellings}
use Rattle.simulator_spec.specs.object_host.Behaviour.{Behaviour}
use Rattle.simulator_spec.specs.object_host.declared.input.Input.{Input}
use Rattle.simulator_spec.specs.signal_ctl.Signal.{signal_behaviour}
use Rattle.simulator_spec.specs.point_ctl.Controlled.{point_behaviour}
use Rattle.simulator_spec.specs.tds_ctl.Controlled.{detection_behaviour}
use Rattle.simulator_spec.specs.ixl_spec.Table.{Table}
use Rattle.simulator_spec.specs.simulator_event.declared.event.Event.{Event}
use Rattle.simulator_spec.specs.simulator_event.declared.event.Event.TheVariants as event
use Rattle.simulator_spec.specs.Happens.{detector_stepped, interlocking_stepped, made_anew, passed, point_stepped, signal_stepped}
use Rattle.simulator_spec.specs.Network.{connection_of, copy_of}
use Rattle.simulator_spec.specs.Nodes.{node_at}
use Rattle.simulator_spec.specs.Controllers.{step_of}
use Rattle.simulator_spec.specs.State.{ClockedControllerState, WorldState}
use Rattle.simulator_spec.specs.Interlocking.{interlocking_step}
use Rattle.simulator_node_laws.specs.Told.{Told, Nobody, ToInterlocking, ToSignal, ToPoint, ToDetector}

-- the node that is told something makes a step
abbrev pub stepped : Site → Table → ℕ → Told → WorldState → WorldState
stepped site table connection Nobody world = world
stepped site table connection (ToInterlocking input) world = interlocking_stepped site table input world
stepped site table connection (ToSignal place input) world = signal_stepped site input connection place world
stepped site table connection (ToPoint place input) world = point_stepped site input connection place world
stepped site table connection (ToDetector place input) world = detector_stepped site input connection place world

-- the connection in which the bytes of a delivery were sent
abbrev pub connection_in : Event → WorldState → ℕ
connection_in (event.Deliver node bytes) world = connection_of (copy_of bytes world)
connection_in _ world = 0

-- what an event changes around the nodes: contacts, losses, clocks; and a node that is made anew
abbrev pub around : Site → Table → Event → WorldState → WorldState
around site table (event.Occupy section occupancy) world = record world { occupancies = slice_set world.occupancies section.0 occupancy }
around site table (event.Reach point position) world = record world { positions = slice_set world.positions point.0 position }
around site table (event.Lose bytes) world = record world { sent = without_oldest_of_all bytes world.sent }
around site table (event.Time elapsed clocks) world = passed elapsed clocks world
around site table (event.Restart node clock first) world = made_anew site table (record { clock = clock; first = first }) (node_at site node.0) world
around site table _ world = world

-- ---- what a step hands out

abbrev pub handed_by : {Object : Type 0} → Behaviour Object → Input → Option (ClockedControllerState Object) → List (List ℕ)
handed_by does input None = []
handed_by does input (Some server) = spellings server.host.link.identity.key (step_of does input server).pdus

-- the datagrams that a node hands out when it is told this
abbrev pub handed_out_by : Site → Table → Told → WorldState → List (List ℕ)
handed_out_by site table Nobody world = []
handed_out_by site table (ToInterlocking input) world = (interlocking_step site table input world.interlocking).outbox.datagrams
handed_out_by site table (ToSignal place input) world = handed_by signal_behaviour input (slice_get world.signals place)
handed_out_by site table (ToPoint place input) world = handed_by point_behaviour input (slice_get world.points place)
handed_out_by site table (ToDetector place input) world = handed_by detection_behaviour input (slice_get world.detectors place)

-- the bytes of all datagrams that were sent, lost or not
abbrev pub bytes_of : List OnLink → List (List ℕ)
bytes_of sent = map (λ one. one.datagram.bytes) sent

-- each with the true time at which it was sent, in microseconds
abbrev pub sent_at : List OnLink → List (List ℕ × ℕ)
sent_at sent = map (λ one. (one.datagram.bytes, one.datagram.at)) sent
