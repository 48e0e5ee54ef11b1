-- What an event that can happen changes, and what is answered to it.
use Rattle.std.specs.Prelude.{ℕ, ◌+◌, ◌-◌, ◌++◌, Bool, true, false, List, [], ◌∷◌, length, drop, Option, Some, None, slice_get, slice_set, slice_index_or}
use Rattle.ixl_spec.specs.sci_telegram.declared.message.Occupancy.{Occupancy}
use Rattle.ixl_spec.specs.sci_telegram.declared.message.Position.TheVariants as positions
use Rattle.ixl_spec.specs.layout.declared.entries.Point.{Point as PointEntry}
use Rattle.ixl_spec.specs.layout.declared.entries.Signal.{Signal as SignalEntry}
use Rattle.ixl_spec.specs.layout.Entries.{DetectorEntry, Site}
use Rattle.ixl_spec.specs.rasta_core.Links.{OnLink, without_oldest_of_all}
use Rattle.object_host.specs.Behaviour.{Behaviour}
use Rattle.object_host.specs.declared.input.Input.{Input}
use Rattle.object_host.specs.declared.input.Input.TheVariants as inputs
use Rattle.object_host.specs.declared.sense.Sense.TheVariants as sense
use Rattle.signal_ctl.specs.Signal.{signal_behaviour}
use Rattle.point_ctl.specs.Controlled.{point_behaviour}
use Rattle.tds_ctl.specs.Controlled.{detection_behaviour}
use Rattle.ixl_spec.specs.State.{changed}
use Rattle.ixl_spec.specs.Step as ixl
use Rattle.ixl_spec.specs.Table.{Table}
use Rattle.simulator_event.specs.declared.event.Event.{Event}
use Rattle.simulator_event.specs.declared.event.Event.TheVariants as event
use Rattle.simulator_event.specs.declared.reply.Answer.{Answer}
use Rattle.simulator_event.specs.declared.reply.Answer.TheVariants as answer
use Rattle.simulator_event.specs.declared.reply.Reply.{Reply}
use Rattle.simulator_spec.specs.First.{Beginning, new_detector, new_ixl, new_point, new_signal}
use Rattle.simulator_spec.specs.Network.{connection_of, copy_of}
use Rattle.simulator_spec.specs.Nodes.{Node, Interlocking, Signal, Point, Detector, detector_link, node_at, point_link}
use Rattle.simulator_spec.specs.Controllers.{controller_after, controller_anew, controller_later, sent_by_controller, step_of}
use Rattle.simulator_spec.specs.State.{ClockedControllerState, WorldState}
use Rattle.simulator_spec.specs.Interlocking.{frozen_by_restart, interlocking_anew, interlocking_reply, interlocking_step, sending_all}

-- bytes as a host is lent them
abbrev pub coming : List ℕ → Input
coming bytes = inputs.Datagram (record { ref_ptr = (0, 0); now = bytes })

-- ---- one node makes a step

-- a controller of a list makes a step: it is as after it, and what it hands out is sent
pub record Stepped (Object : Type 0) : Type 0 where
  pub servers : List (ClockedControllerState Object)
  pub sent : List OnLink

unfoldable pub stepped_at : {Object : Type 0} → Behaviour Object → Input → ℕ → ℕ → ℕ → ℕ → Option (ClockedControllerState Object) → Stepped Object → Stepped Object
stepped_at does input connection time link place None all = all
stepped_at does input connection time link place (Some server) all =
    let done = step_of does input server
    in let new = controller_after done connection (length all.sent) server
    in record { servers = slice_set all.servers place new; sent = all.sent ++ sent_by_controller done time link server new }

unfoldable pub signal_stepped : Site → Input → ℕ → ℕ → WorldState → WorldState
signal_stepped site input connection place world =
    let all = stepped_at signal_behaviour input connection world.time place place (slice_get world.signals place) (record { servers = world.signals; sent = world.sent })
    in record world { signals = all.servers; sent = all.sent }

unfoldable pub point_stepped : Site → Input → ℕ → ℕ → WorldState → WorldState
point_stepped site input connection place world =
    let all = stepped_at point_behaviour input connection world.time (point_link site place) place (slice_get world.points place) (record { servers = world.points; sent = world.sent })
    in record world { points = all.servers; sent = all.sent }

unfoldable pub detector_stepped : Site → Input → ℕ → ℕ → WorldState → WorldState
detector_stepped site input connection place world =
    let all = stepped_at detection_behaviour input connection world.time (detector_link site place) place (slice_get world.detectors place) (record { servers = world.detectors; sent = world.sent })
    in record world { detectors = all.servers; sent = all.sent }

unfoldable pub interlocking_stepped : Site → Table → ixl.Input → WorldState → WorldState
interlocking_stepped site table input world =
    let done = interlocking_step site table input world.interlocking
    in let sending = sending_all site world.time done.outbox.datagrams (record { connections = world.interlocking.connections; sent = world.sent })
    in record world { interlocking = record world.interlocking { ixl = done.ixl; connections = sending.connections }; sent = sending.sent }

-- ---- what comes to a node

abbrev pub ticked_at : Site → Table → Option Node → WorldState → WorldState
ticked_at site table None world = world
ticked_at site table (Some Interlocking) world = interlocking_stepped site table ixl.Tick world
ticked_at site table (Some (Signal place)) world = signal_stepped site inputs.Tick 0 place world
ticked_at site table (Some (Point place)) world = point_stepped site inputs.Tick 0 place world
ticked_at site table (Some (Detector place)) world = detector_stepped site inputs.Tick 0 place world

-- bytes that were sent in this connection
abbrev pub delivered_to : Site → Table → List ℕ → ℕ → Option Node → WorldState → WorldState
delivered_to site table bytes connection None world = world
delivered_to site table bytes connection (Some Interlocking) world = interlocking_stepped site table (ixl.Datagram bytes) world
delivered_to site table bytes connection (Some (Signal place)) world = signal_stepped site (coming bytes) connection place world
delivered_to site table bytes connection (Some (Point place)) world = point_stepped site (coming bytes) connection place world
delivered_to site table bytes connection (Some (Detector place)) world = detector_stepped site (coming bytes) connection place world

-- the contact of a section, at the detector that reports it
abbrev pub sensed_by : Site → Occupancy → Option (ℕ × ℕ) → WorldState → WorldState
sensed_by site occupancy None world = world
sensed_by site occupancy (Some reporter) world =
    detector_stepped site (inputs.Sense (sense.Section reporter.1 occupancy)) 0 reporter.0 world

-- ---- time

-- each of these clocks goes on by its step; the steps after theirs are those of the nodes after
abbrev pub all_later : {Object : Type 0} → ℕ → List ℕ → List (ClockedControllerState Object) → List (ClockedControllerState Object)
all_later moment steps [] = []
all_later moment [] (server ∷ servers) = server ∷ servers
all_later moment (step ∷ steps) (server ∷ servers) = controller_later step moment server ∷ all_later moment steps servers

unfoldable pub passed : ℕ → List ℕ → WorldState → WorldState
passed elapsed steps world =
    let moment = length world.sent
    in let of_controllers = drop 1 steps
    in let of_points = drop (length world.signals) of_controllers
    in record world {
      time = world.time + elapsed;
      interlocking = record world.interlocking { clock = world.interlocking.clock + slice_index_or steps 0 0 };
      signals = all_later moment of_controllers world.signals;
      points = all_later moment of_points world.points;
      detectors = all_later moment (drop (length world.points) of_points) world.detectors;
    }

-- ---- restarts

abbrev pub signal_anew : Site → Beginning → ℕ → Option SignalEntry → WorldState → WorldState
signal_anew site begins place None world = world
signal_anew site begins place (Some entry) world =
    record world { signals = changed (controller_anew (new_signal site begins entry) begins.clock (length world.sent)) place world.signals }

-- a point keeps its place
abbrev pub point_anew : Site → Beginning → ℕ → Option PointEntry → WorldState → WorldState
point_anew site begins place None world = world
point_anew site begins place (Some entry) world =
    let position = slice_index_or world.positions place positions.NoEndPosition
    in record world { points = changed (controller_anew (new_point site begins position entry) begins.clock (length world.sent)) place world.points }

abbrev pub detector_anew : Site → Beginning → ℕ → Option DetectorEntry → WorldState → WorldState
detector_anew site begins place None world = world
detector_anew site begins place (Some entry) world =
    record world { detectors = changed (controller_anew (new_detector site begins world.occupancies entry) begins.clock (length world.sent)) place world.detectors }

abbrev pub made_anew : Site → Table → Beginning → Option Node → WorldState → WorldState
made_anew site table begins None world = world
made_anew site table begins (Some Interlocking) world = record world {
  interlocking = interlocking_anew (new_ixl site table begins) begins.clock world.interlocking;
  frozen = frozen_by_restart table world.interlocking world.frozen;
}
made_anew site table begins (Some (Signal place)) world = signal_anew site begins place (slice_get site.signals place) world
made_anew site table begins (Some (Point place)) world = point_anew site begins place (slice_get site.points place) world
made_anew site table begins (Some (Detector place)) world = detector_anew site begins place (slice_get site.detectors place) world

-- ---- all events

unfoldable pub happens : Site → Table → Event → WorldState → WorldState
happens site table (event.Request command) world = interlocking_stepped site table (ixl.Commands command) world
happens site table (event.Occupy section occupancy) world =
    sensed_by site occupancy (slice_get table.reporters section.0)
    (record world { occupancies = slice_set world.occupancies section.0 occupancy })
happens site table (event.Tick node) world = ticked_at site table (node_at site node.0) world
happens site table (event.Time elapsed clocks) world = passed elapsed clocks world
happens site table (event.Deliver node bytes) world =
    delivered_to site table bytes (connection_of (copy_of bytes world)) (node_at site node.0) world
happens site table (event.Lose bytes) world = record world { sent = without_oldest_of_all bytes world.sent }
happens site table (event.Reach point position) world =
    point_stepped site (inputs.Sense (sense.Position position)) 0 point.0
    (record world { positions = slice_set world.positions point.0 position })
happens site table (event.Restart node clock first) world =
    made_anew site table (record { clock = clock; first = first }) (node_at site node.0) world

-- ---- the answer

abbrev pub answered_by : ixl.Reply → Answer
answered_by (ixl.Refused refusal) = answer.Refused refusal
answered_by _ = answer.Accepted

unfoldable pub answered : Site → Table → Event → WorldState → Answer
answered site table (event.Request command) world = answered_by (interlocking_reply site table (ixl.Commands command) world.interlocking)
answered site table _ world = answer.Done

-- the answer, and how many datagrams were sent
unfoldable pub reply_to : Site → Table → Event → WorldState → Reply
reply_to site table event world = record {
  answer = answered site table event world;
  added = length (happens site table event world).sent - length world.sent;
}

abbrev pub is_restart : Event → Bool
is_restart (event.Restart node clock first) = true
is_restart _ = false
