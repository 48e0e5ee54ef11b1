-- Which of some routes lead ways that the table of a layout lacks.
use Rattle.std.specs.Prelude.{◌==◌, ◌&&◌, Bool, true, false, List, [], ◌∷◌, ◌++◌, if◌then◌else◌}
use Rattle.std.specs.List.{list_any}
use Rattle.control_table.specs.layout.declared.port.Port.{Port}
use Rattle.control_table.specs.layout.Entries.{RouteEntry, Site}
use Rattle.route_derivation.specs.inside.WaySearch.{is_port}

-- whether two paths are the same
unfoldable pub same_path : List Port → List Port → Bool
same_path [] [] = true
same_path (p ∷ ps) (q ∷ qs) = is_port p q && same_path ps qs
same_path _ _ = false

-- whether two routes lead the same way
abbrev pub same_way : RouteEntry → RouteEntry → Bool
same_way q r = q.entry.0 == r.entry.0 && same_path q.path r.path

-- the table of a layout has a route of this way
abbrev pub has_way : Site → RouteEntry → Bool
has_way l r = list_any (λ q. same_way q r) l.routes

-- one more route, unless the table has its way
abbrev pub with_lacking : Site → List RouteEntry → RouteEntry → List RouteEntry
with_lacking l rs r = if has_way l r then rs else rs ++ r ∷ []

-- the routes whose way the table lacks
unfoldable pub lacking : Site → List RouteEntry → List RouteEntry
lacking l [] = []
lacking l (r ∷ rs) = if has_way l r then lacking l rs else r ∷ lacking l rs
