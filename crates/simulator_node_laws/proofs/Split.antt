-- An event is what it changes around the nodes, and a step of the node that it tells something.
use Rattle.std.proofs.Common.{◌≡◌, ℕ, List, Option, Some, None, slice_get, slice_set, refl}
use Rattle.simulator_spec.specs.sci_telegram.declared.message.Occupancy.{Occupancy}
use Rattle.simulator_spec.specs.layout.Entries.{Site}
use Rattle.simulator_spec.specs.object_host.declared.input.Input.TheVariants as inputs
use Rattle.simulator_spec.specs.ixl_spec.Step as ixl
use Rattle.simulator_spec.specs.ixl_spec.Table.{Table}
use Rattle.simulator_spec.specs.simulator_event.declared.event.Event.{Event}
use Rattle.simulator_spec.specs.simulator_event.declared.event.Event.TheVariants as event
use Rattle.simulator_spec.specs.Happens.{coming, delivered_to, happens, sensed_by, ticked_at}
use Rattle.simulator_spec.specs.Network.{connection_of, copy_of}
use Rattle.simulator_spec.specs.Nodes.{Node, Interlocking, Signal, Point, Detector, node_at}
use Rattle.simulator_spec.specs.State.{WorldState}
use Rattle.simulator_node_laws.specs.Split.{around, connection_in, stepped}
use Rattle.simulator_node_laws.specs.Told.{to_node, to_reporter, told}

module _ (site : Site) (table : Table) (world : WorldState) where
  ticks : (at : Option Node) → ticked_at site table at world ≡ stepped site table 0 (to_node ixl.Tick inputs.Tick at) world
  ticks None = refl
  ticks (Some Interlocking) = refl
  ticks (Some (Signal place)) = refl
  ticks (Some (Point place)) = refl
  ticks (Some (Detector place)) = refl

  delivers : (bytes : List ℕ) (connection : ℕ) (at : Option Node) → delivered_to site table bytes connection at world ≡ stepped site table connection (to_node (ixl.Datagram bytes) (coming bytes) at) world
  delivers bytes connection None = refl
  delivers bytes connection (Some Interlocking) = refl
  delivers bytes connection (Some (Signal place)) = refl
  delivers bytes connection (Some (Point place)) = refl
  delivers bytes connection (Some (Detector place)) = refl

  senses : (occupancy : Occupancy) (reporter : Option (ℕ × ℕ)) → sensed_by site occupancy reporter world ≡ stepped site table 0 (to_reporter occupancy reporter) world
  senses occupancy None = refl
  senses occupancy (Some reporter) = refl

pub is_split : (site : Site) (table : Table) (happening : Event) (world : WorldState)
    → happens site table happening world ≡ stepped site table (connection_in happening world) (told site table happening) (around site table happening world)
unfolding happens
is_split site table (event.Request command) world = refl
is_split site table (event.Occupy section occupancy) world =
    senses site table (record world { occupancies = slice_set world.occupancies section.0 occupancy }) occupancy (slice_get table.reporters section.0)
is_split site table (event.Tick node) world = ticks site table world (node_at site node.0)
is_split site table (event.Time elapsed clocks) world = refl
is_split site table (event.Deliver node bytes) world = delivers site table world bytes (connection_of (copy_of bytes world)) (node_at site node.0)
is_split site table (event.Lose bytes) world = refl
is_split site table (event.Reach point position) world = refl
is_split site table (event.Restart node clock first) world = refl
