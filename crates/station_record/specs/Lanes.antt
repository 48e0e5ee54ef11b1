-- The lanes of a station.
use Rattle.std.specs.Prelude.{ℕ, zero, suc, List, [], ◌∷◌, ◌++◌, length}
use Rattle.replay.specs.layout.Entries.{Site}
use Rattle.lane_chart.specs.declared.lane.Kind.{Kind}
use Rattle.lane_chart.specs.declared.lane.Kind.TheVariants as kind
use Rattle.lane_chart.specs.declared.lane.Lane.{Lane}

abbrev pub lane_of : Kind → ℕ → Lane
lane_of what place = record { kind = what; place = place }

-- those of the places below a number
abbrev pub lanes_below : Kind → ℕ → List Lane
lanes_below what zero = []
lanes_below what (suc place) = lanes_below what place ++ lane_of what place ∷ []

-- Those of the field, which show what signals, points and sections do.
abbrev pub field_lanes : Site → List Lane
field_lanes l =
    lanes_below kind.Aspect (length l.signals) ++ (lanes_below kind.Position (length l.points)
    ++ (lanes_below kind.Drive (length l.points) ++ lanes_below kind.Section (length l.sections)))

-- Those of the interlocking, which show what it keeps.
abbrev pub interlocking_lanes : Site → List Lane
interlocking_lanes l =
    lanes_below kind.Authority (length l.signals) ++ (lanes_below kind.Route (length l.routes)
    ++ (lanes_below kind.SignalLink (length l.signals) ++ (lanes_below kind.PointLink (length l.points)
    ++ lanes_below kind.DetectorLink (length l.detectors))))

-- All lanes of a station, each once.
abbrev pub lanes_of : Site → List Lane
lanes_of l = field_lanes l ++ interlocking_lanes l
