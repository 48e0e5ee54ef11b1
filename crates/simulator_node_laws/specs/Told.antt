-- What an event tells to which node: no event tells anything to two.
use Rattle.std.specs.Prelude.{ℕ, Option, Some, None, slice_get}
use Rattle.simulator_spec.specs.sci_telegram.declared.message.Occupancy.{Occupancy}
use Rattle.simulator_spec.specs.layout.Entries.{Site}
use Rattle.simulator_spec.specs.object_host.declared.input.Input.{Input}
use Rattle.simulator_spec.specs.object_host.declared.input.Input.TheVariants as inputs
use Rattle.simulator_spec.specs.object_host.declared.sense.Sense.TheVariants as sense
use Rattle.simulator_spec.specs.ixl_spec.Step as ixl
use Rattle.simulator_spec.specs.ixl_spec.Table.{Table}
use Rattle.simulator_spec.specs.simulator_event.declared.event.Event.{Event}
use Rattle.simulator_spec.specs.simulator_event.declared.event.Event.TheVariants as event
use Rattle.simulator_spec.specs.Happens.{coming}
use Rattle.simulator_spec.specs.Nodes.{Node, Interlocking, Signal, Point, Detector, node_at}

-- an input of one node, or nothing
pub data Told : Type 0 where
  Nobody : Told
  ToInterlocking : ixl.Input → Told
  ToSignal : ℕ → Input → Told
  ToPoint : ℕ → Input → Told
  ToDetector : ℕ → Input → Told

-- the one where it is the interlocking, the other where it is a controller
abbrev pub to_node : ixl.Input → Input → Option Node → Told
to_node here there None = Nobody
to_node here there (Some Interlocking) = ToInterlocking here
to_node here there (Some (Signal place)) = ToSignal place there
to_node here there (Some (Point place)) = ToPoint place there
to_node here there (Some (Detector place)) = ToDetector place there

-- the contact of a section, to the detector that reports it
abbrev pub to_reporter : Occupancy → Option (ℕ × ℕ) → Told
to_reporter occupancy None = Nobody
to_reporter occupancy (Some reporter) = ToDetector reporter.0 (inputs.Sense (sense.Section reporter.1 occupancy))

abbrev pub told : Site → Table → Event → Told
told site table (event.Request command) = ToInterlocking (ixl.Commands command)
told site table (event.Occupy section occupancy) = to_reporter occupancy (slice_get table.reporters section.0)
told site table (event.Tick node) = to_node ixl.Tick inputs.Tick (node_at site node.0)
told site table (event.Time elapsed clocks) = Nobody
told site table (event.Deliver node bytes) = to_node (ixl.Datagram bytes) (coming bytes) (node_at site node.0)
told site table (event.Lose bytes) = Nobody
told site table (event.Reach point position) = ToPoint point.0 (inputs.Sense (sense.Position position))
told site table (event.Restart node clock first) = Nobody
