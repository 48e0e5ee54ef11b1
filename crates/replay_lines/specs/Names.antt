-- What the words of a line name.
use Rattle.std.specs.Prelude.{ℕ, List, ◌∷◌, ◌++◌, length, map, Option, Some, None, unwrap_or, slice_get, codes, Result, Ok, Err}
use Rattle.std.specs.Option.{option_map_or}
use Rattle.std.specs.List.{position}
use Rattle.std.specs.Str.{bytes_eq}
use Rattle.replay_words.specs.declared.fault.Fault.{Fault}
use Rattle.replay_words.specs.declared.fault.Fault.TheVariants.{Name}
use Rattle.ixl_spec.specs.layout.Entries.{Site}
pub use Rattle.ixl_spec.specs.layout.Nodes.{node_names}
use Rattle.ixl_spec.specs.layout.declared.ids.PointId.{PointId}
use Rattle.ixl_spec.specs.layout.declared.ids.RouteId.{RouteId}
use Rattle.ixl_spec.specs.layout.declared.ids.SectionId.{SectionId}
use Rattle.simulator_event.specs.layout.declared.ids.NodeId.{NodeId}

-- what stands at a place that was found; fault 2 where none was
abbrev pub found_at : {A : Type 0} → (ℕ → A) → Option ℕ → Result A Fault
found_at entry (Some place) = Ok (entry place)
found_at entry None = Err Name

-- the node of a name
abbrev pub node_named : Site → List ℕ → Result NodeId Fault
node_named site word = found_at (λ place. record { 0 = place }) (position (λ name. bytes_eq name word) (node_names site))

-- the section of a name
abbrev pub section_named : Site → List ℕ → Result SectionId Fault
section_named site word = found_at (λ place. record { 0 = place }) (position (λ name. bytes_eq name word) site.sections)

-- the point of a name
abbrev pub point_named : Site → List ℕ → Result PointId Fault
point_named site word = found_at (λ place. record { 0 = place }) (position (λ p. bytes_eq p.name word) site.points)

-- the route of a name; every word that names none stands for the one after the last
abbrev pub route_named : Site → List ℕ → RouteId
route_named site word = record { 0 = unwrap_or (position (λ r. bytes_eq r.name word) site.routes) (length site.routes) }

-- the word that stands for a route: its name, or `_` where the table lacks it
abbrev pub route_word : Site → RouteId → List ℕ
route_word site route = option_map_or (λ r. r.name) (slice_get site.routes route.0) (codes "_")

-- the word that stands for a section: its name, or `_` where the layout lacks it
abbrev pub section_word : Site → SectionId → List ℕ
section_word site section = option_map_or (λ name. name) (slice_get site.sections section.0) (codes "_")

-- the word that stands for a point: its name, or `_` where the layout lacks it
abbrev pub point_word : Site → PointId → List ℕ
point_word site point = option_map_or (λ p. p.name) (slice_get site.points point.0) (codes "_")
