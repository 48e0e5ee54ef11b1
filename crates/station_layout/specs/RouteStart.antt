-- Where a route begins, and which points it writes.
use Rattle.std.specs.Prelude.{◌==◌, Bool, List, Option, slice_get}
use Rattle.std.specs.List.{list_any}
use Rattle.std.specs.Option.{option_map}
use Rattle.control_table.specs.sci_telegram.declared.message.Side.{Side}
use Rattle.control_table.specs.layout.declared.ids.PointId.{PointId}
use Rattle.control_table.specs.layout.declared.port.Port.{Port}
use Rattle.control_table.specs.layout.Entries.{RouteEntry, Site}

-- the port at which the entry signal of a route stands
abbrev pub start_of : Site → RouteEntry → Option Port
start_of l r = option_map (λ signal. signal.at) (slice_get l.signals r.entry.0)

-- a point is written
abbrev pub is_written : List (PointId × Side) → PointId → Bool
is_written points p = list_any (λ written. written.0.0 == p.0) points
