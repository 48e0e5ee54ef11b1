-- What the entries of a layout are called.
use Rattle.std.specs.Prelude.{ℕ, List, Option, slice_get, option_and_then}
use Rattle.std.specs.Option.{option_map}
use Rattle.layout_text.specs.declared.entries.PortName.{PortName}
use Rattle.control_table.specs.layout.declared.ids.PointId.{PointId}
use Rattle.control_table.specs.layout.declared.ids.RouteId.{RouteId}
use Rattle.control_table.specs.layout.declared.port.Port.{Port}
use Rattle.control_table.specs.layout.declared.port.Element.{Element}
use Rattle.control_table.specs.layout.declared.port.Element.TheVariants as element
use Rattle.control_table.specs.layout.declared.entries.Exit.{Exit}
use Rattle.control_table.specs.layout.declared.entries.Exit.TheVariants as exit
use Rattle.control_table.specs.layout.Entries.{Site}

module _ (l : Site) where
  unfoldable pub point_name : PointId → Option (List ℕ)
  point_name p = option_map (λ point. point.name) (slice_get l.points p.0)

  -- by its place in its list
  unfoldable pub signal_name : ℕ → Option (List ℕ)
  signal_name n = option_map (λ signal. signal.name) (slice_get l.signals n)

  unfoldable pub route_name : RouteId → Option (List ℕ)
  route_name r = option_map (λ route. route.name) (slice_get l.routes r.0)

  unfoldable pub element_name : Element → Option (List ℕ)
  element_name (element.Track t) = option_map (λ track. track.name) (slice_get l.tracks t.0)
  element_name (element.Point p) = point_name p
  element_name (element.Border b) = slice_get l.borders b.0

  unfoldable pub port_name : Port → Option PortName
  port_name p = option_map (λ name. record { element = name; end = p.end }) (element_name p.element)

  -- a leg and what is joined to it
  unfoldable pub leg_names : Port → Port → Option (PortName × PortName)
  leg_names leg from = option_and_then (λ a. option_map (λ b. (a, b)) (port_name from)) (port_name leg)

  unfoldable pub exit_name : Exit → Option (List ℕ)
  exit_name (exit.Signal s) = signal_name s.0
  exit_name (exit.Border b) = slice_get l.borders b.0
