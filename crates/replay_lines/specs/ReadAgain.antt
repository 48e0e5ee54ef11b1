-- The event as which the line of an event is read.
use Rattle.std.specs.Prelude.{ℕ, ◌^◌, ◌<◌, nat_lt, if◌then◌else◌, List, length, Option, Some, None}
use Rattle.std.specs.List.{All}
use Rattle.hex.specs.Hex.{IsBytes}
use Rattle.ixl_spec.specs.layout.Entries.{Site}
use Rattle.ixl_spec.specs.layout.declared.ids.RouteId.{RouteId}
use Rattle.ixl_spec.specs.layout.declared.ids.PointId.{PointId}
use Rattle.ixl_spec.specs.closings.declared.thing.Named.{Named}
use Rattle.ixl_spec.specs.closings.declared.thing.Named.TheVariants.{One}
use Rattle.ixl_spec.specs.closings.declared.thing.Thing.TheVariants as thing
use Rattle.ixl_spec.specs.closings.Words.{name_of}
use Rattle.ixl_spec.specs.declared.command.Command.{Command}
use Rattle.ixl_spec.specs.declared.command.Command.TheVariants as command
use Rattle.simulator_event.specs.declared.event.Event.{Event}
use Rattle.simulator_event.specs.declared.event.Event.TheVariants.{Request, Time, Deliver, Lose, Restart}

-- all routes that the table lacks are one, that after the last
abbrev pub route_read : Site → RouteId → RouteId
route_read site route = if nat_lt route.0 (length site.routes) then route else record { 0 = length site.routes }

-- so are all points that the layout lacks
abbrev pub point_read : Site → PointId → PointId
point_read site point = if nat_lt point.0 (length site.points) then point else record { 0 = length site.points }

-- and whatever it lacks that is named without a side is the route after the last
abbrev pub named_or_last : Site → Named → Option (List ℕ) → Named
named_or_last site named (Some name) = named
named_or_last site named None = One (thing.Route (record { 0 = length site.routes }))

abbrev pub named_read : Site → Named → Named
named_read site (One (thing.Point point side)) = One (thing.Point (point_read site point) side)
named_read site named = named_or_last site named (name_of site named)

abbrev pub command_read : Site → Command → Command
command_read site (command.Request route) = command.Request (route_read site route)
command_read site (command.Cancel route) = command.Cancel (route_read site route)
command_read site command.Resume = command.Resume
command_read site (command.Release route) = command.Release (route_read site route)
command_read site (command.Move point side) = command.Move (point_read site point) side
command_read site (command.Close named) = command.Close (named_read site named)
command_read site (command.Open named) = command.Open (named_read site named)

abbrev pub event_read : Site → Event → Event
event_read site (Request of) = Request (command_read site of)
event_read site event = event

-- The numbers of an event are those of its code: bytes, a sequence number of 32 bits, and steps of time of 64.
abbrev pub IsOfValues : Event → Type 0
IsOfValues (Time elapsed steps) = (elapsed < 2 ^ 64) × All (λ step. step < 2 ^ 64) steps
IsOfValues (Deliver node bytes) = IsBytes bytes
IsOfValues (Lose bytes) = IsBytes bytes
IsOfValues (Restart node clock number) = number < 2 ^ 32
IsOfValues event = Unit {0}
