-- Things of a station by their kinds and names.
use Rattle.std.specs.Prelude.{ℕ, List, length, Option, slice_get}
use Rattle.std.specs.List.{position}
use Rattle.std.specs.Option.{option_map}
use Rattle.std.specs.Str.{bytes_eq}
use Rattle.ixl_state.specs.layout.Entries.{RouteEntry, Site}
use Rattle.ixl_state.specs.layout.Nodes.{node_names, nodes}
use Rattle.ixl_state.specs.layout.declared.entries.Point.{Point as PointEntry}
use Rattle.ixl_state.specs.layout.declared.entries.Signal.{Signal as SignalEntry}
use Rattle.embedded_ixl.specs.declared.places.Kind.{Kind}
use Rattle.embedded_ixl.specs.declared.places.Kind.TheVariants.{Signal, Point, Section, Route, Node}

-- how many things of a kind there are
abbrev pub count_of : Site → Kind → ℕ
count_of site Signal = length site.signals
count_of site Point = length site.points
count_of site Section = length site.sections
count_of site Route = length site.routes
count_of site Node = nodes site

-- the place of the first thing of a kind that has this name, counted from 0
abbrev pub place_in : Site → Kind → List ℕ → Option ℕ
place_in site Signal name = position (λ (signal : SignalEntry). bytes_eq signal.name name) site.signals
place_in site Point name = position (λ (point : PointEntry). bytes_eq point.name name) site.points
place_in site Section name = position (λ section. bytes_eq section name) site.sections
place_in site Route name = position (λ (route : RouteEntry). bytes_eq route.name name) site.routes
place_in site Node name = position (λ node. bytes_eq node name) (node_names site)

-- the name of the thing of a kind at a place
abbrev pub name_in : Site → Kind → ℕ → Option (List ℕ)
name_in site Signal place = option_map (λ (signal : SignalEntry). signal.name) (slice_get site.signals place)
name_in site Point place = option_map (λ (point : PointEntry). point.name) (slice_get site.points place)
name_in site Section place = slice_get site.sections place
name_in site Route place = option_map (λ (route : RouteEntry). route.name) (slice_get site.routes place)
name_in site Node place = slice_get (node_names site) place
