-- What a route needs, as sets of places.
use Rattle.std.specs.Prelude.{◌≡◌, ◌↔◌}
use Rattle.sci_telegram.specs.declared.message.Side.TheVariants as side
use Rattle.layout.specs.declared.ids.SectionId.{SectionId}
use Rattle.layout.specs.declared.ids.PointId.{PointId}
use Rattle.layout.specs.declared.ids.RouteId.{RouteId}
use Rattle.layout.specs.Entries.{RouteEntry, Site}
use Rattle.bit_row.specs.Places.{Has}
use Rattle.control_table.specs.declared.masks.RouteMasks.{RouteMasks}
use Rattle.control_table.specs.Topology.{IsRoute}
use Rattle.control_table.specs.Table.{LeadsOver, Lists, RouteRequires}

-- The masks of a route: the signal at which it begins, the sections over which it leads, the points that it
-- requires at each side, and the routes that it lists as extra conflicts.
pub record AreMasks (l : Site) (a : RouteId) (m : RouteMasks) : Type 0 where
  pub entry : (r : RouteEntry) → IsRoute l a r → m.entry ≡ r.entry
  pub sections : (s : SectionId) → Has m.sections s.0 ↔ LeadsOver l a s
  pub right : (p : PointId) → Has m.right p.0 ↔ RouteRequires l a p side.Right
  pub left : (p : PointId) → Has m.left p.0 ↔ RouteRequires l a p side.Left
  pub extra : (b : RouteId) → Has m.extra b.0 ↔ Lists l a b
