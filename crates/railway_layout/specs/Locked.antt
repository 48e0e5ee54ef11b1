-- What a line asks of the tables of its stations.
use Rattle.std.specs.Prelude.{◌≡◌, ◌⊎◌, List, Some}
use Rattle.std.specs.List.{Contains}
use Rattle.control_table.specs.sci_telegram.declared.message.Side.TheVariants.{Left, Right}
use Rattle.control_table.specs.layout.Entries.{RouteEntry, Site}
use Rattle.control_table.specs.layout.declared.entries.Exit.TheVariants as exit
use Rattle.control_table.specs.layout.declared.ids.RouteId.{RouteId}
use Rattle.control_table.specs.Sides.{leg}
use Rattle.control_table.specs.Table.{RouteRequires, Sound}
use Rattle.control_table.specs.Topology.{IsRoute}
use Rattle.railway_layout.specs.Rules.{tip}
use Rattle.railway_layout.specs.States.{EndState, LineState, RailwayState}
use Rattle.railway_layout.specs.Stations.{site_at}

-- A route onto the line of an end: it ends at the border, or leaves the lock by its left leg, where the track of the line lies once
-- more.
abbrev pub IsOnto : EndState → RouteEntry → Type 0
IsOnto e r = (r.exit ≡ exit.Border e.border) ⊎ Contains r.path (leg e.lock Left)

-- Each route onto the line of an end requires its lock at the right, and each route that leaves the lock by its tip, which is a route
-- in, requires it at the left.
pub record IsLocked (l : Site) (e : EndState) : Type 0 where
  pub onto : (a : RouteId) (r : RouteEntry) → IsRoute l a r → IsOnto e r → RouteRequires l a e.lock Right
  pub into : (a : RouteId) (r : RouteEntry) → IsRoute l a r → Contains r.path (tip e.lock) → RouteRequires l a e.lock Left

-- An end of a line.
abbrev pub IsEndOf : EndState → LineState → Type 0
IsEndOf e line = (line.first ≡ e) ⊎ (line.second ≡ e)

-- The station of an end has a sound table, and the end is locked there.
abbrev pub IsLockedAt : RailwayState → EndState → Type 0
IsLockedAt railway e = (l : Site) × (site_at railway.stations e.station.0 ≡ Some l) × Sound l × IsLocked l e
