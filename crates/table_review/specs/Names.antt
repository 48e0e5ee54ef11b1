-- What the entries of a layout are called in its text.
use Rattle.std.specs.Prelude.{ℕ, List, [], ◌∷◌, ◌++◌, codes, slice_get}
use Rattle.std.specs.Option.{option_map, unwrap_or}
use Rattle.std.specs.List.{flat_map}
use Rattle.layout_text.specs.declared.entries.End.{End}
use Rattle.layout_text.specs.declared.entries.End.TheVariants as end
use Rattle.route_derivation.specs.control_table.sci_telegram.declared.message.Side.{Side}
use Rattle.route_derivation.specs.control_table.sci_telegram.declared.message.Side.TheVariants as side
use Rattle.route_derivation.specs.control_table.layout.declared.ids.BorderId.{BorderId}
use Rattle.route_derivation.specs.control_table.layout.declared.ids.PointId.{PointId}
use Rattle.route_derivation.specs.control_table.layout.declared.ids.SectionId.{SectionId}
use Rattle.route_derivation.specs.control_table.layout.declared.ids.SignalId.{SignalId}
use Rattle.route_derivation.specs.control_table.layout.declared.ids.TrackId.{TrackId}
use Rattle.route_derivation.specs.control_table.layout.declared.port.Port.{Port}
use Rattle.route_derivation.specs.control_table.layout.declared.port.Element.{Element}
use Rattle.route_derivation.specs.control_table.layout.declared.port.Element.TheVariants as element
use Rattle.route_derivation.specs.control_table.layout.declared.entries.Exit.{Exit}
use Rattle.route_derivation.specs.control_table.layout.declared.entries.Exit.TheVariants as exit
use Rattle.route_derivation.specs.control_table.layout.Entries.{Site}

abbrev pub end_word : End → List ℕ
end_word end.A = codes "a"
end_word end.B = codes "b"
end_word end.Tip = codes "tip"
end_word end.Left = codes "left"
end_word end.Right = codes "right"
end_word end.End = codes "end"

abbrev pub side_word : Side → List ℕ
side_word side.Left = codes "left"
side_word side.Right = codes "right"

-- The name of an entry, by its place in its list.
unfoldable pub track_name : Site → TrackId → List ℕ
track_name l t = unwrap_or (option_map (λ track. track.name) (slice_get l.tracks t.0)) []

unfoldable pub point_name : Site → PointId → List ℕ
point_name l p = unwrap_or (option_map (λ point. point.name) (slice_get l.points p.0)) []

unfoldable pub signal_name : Site → SignalId → List ℕ
signal_name l s = unwrap_or (option_map (λ signal. signal.name) (slice_get l.signals s.0)) []

unfoldable pub section_name : Site → SectionId → List ℕ
section_name l c = unwrap_or (slice_get l.sections c.0) []

unfoldable pub border_name : Site → BorderId → List ℕ
border_name l b = unwrap_or (slice_get l.borders b.0) []

abbrev pub element_name : Site → Element → List ℕ
element_name l (element.Track t) = track_name l t
element_name l (element.Point p) = point_name l p
element_name l (element.Border b) = border_name l b

abbrev pub exit_name : Site → Exit → List ℕ
exit_name l (exit.Signal s) = signal_name l s
exit_name l (exit.Border b) = border_name l b

-- a port: the name of its element, a dot, and its word
abbrev pub port_text : Site → Port → List ℕ
port_text l p = element_name l p.element ++ (codes "." ++ end_word p.end)
