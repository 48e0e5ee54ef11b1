-- A layout whose text may have no routes yet.
use Rattle.std.specs.Prelude.{◌==◌, ◌&&◌, ℕ, Bool, true, false, List, ◌++◌, codes, Ok, Err, if◌then◌else◌}
use Rattle.layout_text.specs.FirstFault.{Read}
use Rattle.layout_text.specs.declared.fault.LayoutFault.TheVariants.{MissingKey}
use Rattle.layout_text.specs.declared.fault.Place.{Place}
use Rattle.layout_text.specs.declared.fault.TableName.{TableName}
use Rattle.layout_text.specs.declared.fault.TableName.TheVariants as named
use Rattle.route_derivation.specs.control_table.layout.Entries.{Site}
use Rattle.route_derivation.specs.control_table.layout.NamesResolved.{layout_in}

-- the table of routes
abbrev pub is_routes : TableName → Bool
is_routes named.Route = true
is_routes _ = false

-- the key `route` itself
abbrev pub is_routes_key : Place → Bool
is_routes_key place = is_routes place.table && place.entry == 0

-- What a text is read as, or, where it lacks the key `route` alone, with an empty list of routes before it.
abbrev pub read_again : List ℕ → Read Site → Read Site
read_again text (Err (MissingKey place)) = if is_routes_key place then layout_in (codes "route = []\n" ++ text) else Err (MissingKey place)
read_again text other = other

abbrev pub topology_in : List ℕ → Read Site
topology_in text = read_again text (layout_in text)
