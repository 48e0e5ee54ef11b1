-- What contracts see of the parts of a world, and what is always true of them.
use Rattle.std.specs.Prelude.{◌≡◌, ℕ, ◌+◌, ◌/◌, ◌≤◌}
use Rattle.ixl_state.specs.layout.Entries.{Site}
use Rattle.ixl_state.specs.ixl_spec.Table.{Table}
use Rattle.simulator_field.specs.Field.{AreOf, world_of}
use Rattle.simulator_safety.specs.Reached.{IsReached}
use Rattle.simulator_spec.specs.State.{WorldState}
use Rattle.simulator.specs.declared.parts.Parts.{Parts}

abbrev pub site_of : Parts → Site
site_of parts = parts.interlocking.sited.site

abbrev pub table_of : Parts → Table
table_of parts = parts.interlocking.sited.table

abbrev pub seen : Parts → WorldState
seen parts = world_of parts.interlocking.interlocking parts.frozen.items parts.field

-- how many datagrams have their memory already, and how many steps: one sends 5120 datagrams at most
abbrev pub room_of : Parts → ℕ
room_of parts = parts.field.network.room

abbrev pub steps_of : Parts → ℕ
steps_of parts = room_of parts / 5120

-- There is one of each that the site names.
abbrev pub IsWhole : Parts → Type 0
IsWhole parts = AreOf (site_of parts) parts.field

-- Something happens to a world, which takes the memory of one step at most.
pub record Goes (does : WorldState → WorldState) (old new : Parts) : Type 0 where
  pub world : seen new ≡ does (seen old)
  pub sited : new.interlocking.sited ≡ old.interlocking.sited
  pub whole : IsWhole new
  pub room : room_of old ≤ room_of new + 5120

-- A node is made anew, and the network stays.
pub record Restarts (does : WorldState → WorldState) (old new : Parts) : Type 0 where
  pub world : seen new ≡ does (seen old)
  pub sited : new.interlocking.sited ≡ old.interlocking.sited
  pub whole : IsWhole new
  pub room : room_of old ≤ room_of new

-- A list of events has led to this world from the first one.
abbrev pub HasCome : Parts → Type 0
HasCome parts = IsReached (site_of parts) (table_of parts) (seen parts)
