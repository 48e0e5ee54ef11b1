-- What the commands of a round ask for.
use Rattle.std.specs.Prelude.{ℕ, zero, suc, Bool, true, false, if◌then◌else◌, List, [], ◌∷◌}
use Rattle.std.specs.List.{flat_map}
use Rattle.panel_desk.specs.node_lines.ixl_spec.declared.command.Command.TheVariants.{Cancel, Request as Set}
use Rattle.panel_desk.specs.node_lines.layout.declared.ids.RouteId.{RouteId}
use Rattle.panel_desk.specs.node_lines.simulator_event.declared.event.Event.{Event}
use Rattle.panel_desk.specs.node_lines.simulator_event.declared.event.Event.TheVariants as happens
use Rattle.panel_desk.specs.declared.panel_command.PanelCommand.{PanelCommand}
use Rattle.panel_desk.specs.declared.panel_command.PanelCommand.TheVariants as wants
use Rattle.station_panel.specs.Faults.{FaultsView, disturbed}

-- an operator may ask for a command, an occupancy or a restart; all else happens by itself
abbrev pub may_be_asked : Event → Bool
may_be_asked (happens.Request command) = true
may_be_asked (happens.Occupy section occupancy) = true
may_be_asked (happens.Restart node clock first) = true
may_be_asked other = false

-- a cancel of each of so many routes, from one on, in their order
abbrev pub cancels : ℕ → ℕ → List Event
cancels place zero = []
cancels place (suc more) = happens.Request (Cancel (record { 0 = place })) ∷ cancels (suc place) more

-- the events for which a command asks, of a station with so many routes
abbrev pub events_by : ℕ → PanelCommand → List Event
events_by routes (wants.Event event) = if may_be_asked event then event ∷ [] else []
events_by routes wants.CancelAll = cancels 0 routes
events_by routes (wants.Disturb disturbance) = []
events_by routes (wants.Stand order) = []

-- those for which commands ask, one after the other, each once
abbrev pub events_asked : ℕ → List PanelCommand → List Event
events_asked routes commands = flat_map (events_by routes) commands

-- that a route is set: so the panel asks by itself
abbrev pub requested : RouteId → Event
requested route = happens.Request (Set route)

-- what is disturbed after a command, and after commands
abbrev pub faults_by : PanelCommand → FaultsView → FaultsView
faults_by (wants.Disturb disturbance) faults = disturbed disturbance faults
faults_by other faults = faults

abbrev pub faults_after : List PanelCommand → FaultsView → FaultsView
faults_after [] faults = faults
faults_after (command ∷ more) faults = faults_after more (faults_by command faults)
