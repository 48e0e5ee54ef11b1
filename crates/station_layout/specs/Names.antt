-- What the entries of a station are called, and how a cell joins names.
use Rattle.std.specs.Prelude.{ℕ, List, [], ◌++◌, codes, slice_get}
use Rattle.std.specs.List.{join_by}
use Rattle.std.specs.Option.{option_map, unwrap_or}
use Rattle.control_table.specs.layout.declared.ids.BorderId.{BorderId}
use Rattle.control_table.specs.layout.declared.ids.PointId.{PointId}
use Rattle.control_table.specs.layout.declared.ids.RouteId.{RouteId}
use Rattle.control_table.specs.layout.declared.ids.SectionId.{SectionId}
use Rattle.control_table.specs.layout.declared.ids.SignalId.{SignalId}
use Rattle.control_table.specs.layout.declared.entries.Exit.{Exit}
use Rattle.control_table.specs.layout.declared.entries.Exit.TheVariants as exit
use Rattle.control_table.specs.layout.Entries.{Site}

-- The name of an entry, by its place in its list.
unfoldable pub section_name : Site → SectionId → List ℕ
section_name l s = unwrap_or (slice_get l.sections s.0) []

unfoldable pub point_name : Site → PointId → List ℕ
point_name l p = unwrap_or (option_map (λ point. point.name) (slice_get l.points p.0)) []

unfoldable pub signal_name : Site → SignalId → List ℕ
signal_name l s = unwrap_or (option_map (λ signal. signal.name) (slice_get l.signals s.0)) []

unfoldable pub border_name : Site → BorderId → List ℕ
border_name l b = unwrap_or (slice_get l.borders b.0) []

unfoldable pub route_name : Site → RouteId → List ℕ
route_name l a = unwrap_or (option_map (λ route. route.name) (slice_get l.routes a.0)) []

abbrev pub exit_name : Site → Exit → List ℕ
exit_name l (exit.Signal s) = signal_name l s
exit_name l (exit.Border b) = border_name l b

-- words with a space between each two
abbrev pub spaced : List (List ℕ) → List ℕ
spaced words = join_by (λ w. w) (codes " ") words

-- entries with a semicolon between each two
abbrev pub parted : List (List ℕ) → List ℕ
parted entries = join_by (λ e. e) (codes "; ") entries

-- a name, and what is said of it
abbrev pub with_word : List ℕ → List ℕ → List ℕ
with_word name word = name ++ (codes ": " ++ word)
