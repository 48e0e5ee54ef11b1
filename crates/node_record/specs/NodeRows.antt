-- Which rows the chart of a node's record has.
use Rattle.std.specs.Prelude.{ℕ, ◌==◌, ◌&&◌, not, Bool, true, false, List, Option, Some, None, slice_get}
use Rattle.std.specs.List.{list_any}
use Rattle.control_table.specs.layout.Entries.{DetectorEntry}
use Rattle.lane_chart.specs.declared.subject.Row.{Row}
use Rattle.lane_chart.specs.declared.subject.Sort.{Sort}
use Rattle.lane_chart.specs.declared.subject.Sort.TheVariants as sort
use Rattle.control_table.specs.layout.Nodes.{Node}
use Rattle.control_table.specs.layout.Nodes as nodes

abbrev pub is_controller : Sort → Bool
is_controller sort.SignalNode = true
is_controller sort.PointNode = true
is_controller sort.DetectorNode = true
is_controller other = false

abbrev pub is_signal_row : Sort → Bool
is_signal_row sort.Signal = true
is_signal_row sort.SignalNode = true
is_signal_row other = false

abbrev pub is_point_row : Sort → Bool
is_point_row sort.Point = true
is_point_row sort.PointNode = true
is_point_row other = false

abbrev pub owns : DetectorEntry → ℕ → Bool
owns detector section = list_any (λ one. one.0 == section) detector.sections

abbrev pub is_owned : Option DetectorEntry → ℕ → Bool
is_owned (Some detector) section = owns detector section
is_owned None section = false

abbrev pub has_section : List DetectorEntry → ℕ → ℕ → Bool
has_section detectors detector section = is_owned (slice_get detectors detector) section

abbrev pub is_detector_sort : List DetectorEntry → ℕ → ℕ → Sort → Bool
is_detector_sort detectors detector place sort.DetectorNode = place == detector
is_detector_sort detectors detector place sort.Section = has_section detectors detector place
is_detector_sort detectors detector place other = false

abbrev pub is_detector_row : List DetectorEntry → ℕ → Row → Bool
is_detector_row detectors detector row = is_detector_sort detectors detector row.place row.subject.sort

-- An interlocking tells of all but the controllers themselves. A controller tells of its signal, its point or its sections.
abbrev pub is_row_of : List DetectorEntry → Node → Row → Bool
is_row_of detectors nodes.Interlocking row = not (is_controller row.subject.sort)
is_row_of detectors (nodes.Signal place) row = is_signal_row row.subject.sort && row.place == place
is_row_of detectors (nodes.Point place) row = is_point_row row.subject.sort && row.place == place
is_row_of detectors (nodes.Detector place) row = is_detector_row detectors place row
