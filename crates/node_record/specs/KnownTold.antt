-- What the lines of an interlocking to its operator tell of signals, points, sections, routes and links: `node_lines` says
-- which lines these are.
use Rattle.std.specs.Prelude.{ℕ, if◌then◌else◌, List, [], ◌∷◌, codes, Option, Some, None, Result, Ok, Err}
use Rattle.std.specs.Option.{option_map}
use Rattle.std.specs.Str.{bytes_eq}
use Rattle.control_table.specs.layout.Entries.{Site}
use Rattle.control_table.specs.layout.declared.ids.PointId.{PointId}
use Rattle.control_table.specs.layout.declared.ids.SectionId.{SectionId}
use Rattle.control_table.specs.layout.Nodes.{Node}
use Rattle.control_table.specs.layout.Nodes as nodes
use Rattle.control_table.specs.sci_telegram.Words.{aspect_of_word, occupancy_of_word, side_of_word}
use Rattle.control_table.specs.sci_telegram.declared.message.Position.{Position}
use Rattle.control_table.specs.sci_telegram.declared.message.Position.TheVariants as position
use Rattle.control_table.specs.sci_telegram.declared.message.Side.{Side}
use Rattle.control_table.specs.sci_telegram.declared.message.Side.TheVariants as side
use Rattle.lane_chart.specs.declared.lane.Kind.{Kind}
use Rattle.lane_chart.specs.declared.lane.Kind.TheVariants as kind
use Rattle.lane_chart.specs.declared.lane.Lane.{Lane}
use Rattle.lane_chart.specs.declared.lane.Progress.TheVariants as progress
use Rattle.lane_chart.specs.declared.lane.Readiness.TheVariants as readiness
use Rattle.lane_chart.specs.declared.lane.Seen.{Seen}
use Rattle.lane_chart.specs.declared.lane.Seen.TheVariants as seen
use Rattle.replay_lines.specs.Names.{node_named, point_named, route_named, section_named}
use Rattle.replay_words.specs.declared.fault.Fault.{Fault}
use Rattle.simulator_event.specs.layout.declared.ids.NodeId.{NodeId}
use Rattle.node_record.specs.NodesOfRecords.{node_of}
use Rattle.node_record.specs.declared.told.Told.{Told}

abbrev lane_of : Kind → ℕ → Lane
lane_of what place = record { kind = what; place = place }

-- ---- of which lane

abbrev pub link_of : Node → Option Lane
link_of nodes.Interlocking = None
link_of (nodes.Signal place) = Some (lane_of kind.SignalLink place)
link_of (nodes.Point place) = Some (lane_of kind.PointLink place)
link_of (nodes.Detector place) = Some (lane_of kind.DetectorLink place)

abbrev pub link_to : Site → Result NodeId Fault → Option Lane
link_to l (Ok node) = link_of (node_of l node.0)
link_to l (Err fault) = None

-- the link to the node of a name
abbrev pub link_lane : Site → List ℕ → Option Lane
link_lane l name = link_to l (node_named l name)

abbrev pub signal_of : Kind → Node → Option Lane
signal_of what (nodes.Signal place) = Some (lane_of what place)
signal_of what other = None

abbrev pub signal_at : Site → Kind → Result NodeId Fault → Option Lane
signal_at l what (Ok node) = signal_of what (node_of l node.0)
signal_at l what (Err fault) = None

-- the signal of a name
abbrev pub signal_lane : Site → Kind → List ℕ → Option Lane
signal_lane l what name = signal_at l what (node_named l name)

abbrev pub section_at : Result SectionId Fault → Option Lane
section_at (Ok section) = Some (lane_of kind.Section section.0)
section_at (Err fault) = None

abbrev pub section_lane : Site → List ℕ → Option Lane
section_lane l name = section_at (section_named l name)

abbrev pub point_at : Result PointId Fault → Option Lane
point_at (Ok point) = Some (lane_of kind.Position point.0)
point_at (Err fault) = None

abbrev pub point_lane : Site → List ℕ → Option Lane
point_lane l name = point_at (point_named l name)

-- ---- what it shows

abbrev pub link_seen : List ℕ → Option Seen
link_seen word =
    if bytes_eq word (codes "ready") then Some (seen.Link readiness.Ready)
    else if bytes_eq word (codes "lost") then Some (seen.Link readiness.Down)
    else None

-- what a word says, if anything is known of it; `unknown` says that nothing is
abbrev pub or_unknown : {T : Type 0} → List ℕ → Option T → Option (Option T)
or_unknown word (Some said) = Some (Some said)
or_unknown word None = if bytes_eq word (codes "unknown") then Some None else None

abbrev pub section_seen : List ℕ → Option Seen
section_seen word = option_map (λ occupancy. seen.Section occupancy) (or_unknown word (occupancy_of_word word))

-- a point is known where it lies at a side
abbrev position_at : Side → Position
position_at side.Right = position.Right
position_at side.Left = position.Left

abbrev pub position_seen : List ℕ → Option Seen
position_seen word = option_map (λ side. seen.Position (option_map position_at side)) (or_unknown word (side_of_word word))

abbrev pub aspect_seen : List ℕ → Option Seen
aspect_seen word = option_map (λ aspect. seen.Aspect (Some aspect)) (aspect_of_word word)

-- a route that is set may have authority by now: that is told of its signal
abbrev pub progress_seen : List ℕ → Option Seen
progress_seen word =
    if bytes_eq word (codes "set") then Some (seen.Route (Some progress.Waiting))
    else if bytes_eq word (codes "free") then Some (seen.Route (Some progress.Free))
    else None

-- the route into which an authority leads
abbrev pub route_seen : Site → List (List ℕ) → Option Seen
route_seen l [] = None
route_seen l (route ∷ more) = Some (seen.Authority (Some (route_named l route)))

-- without authority the aspect is stop, and a route has another one
abbrev pub authority_seen : Site → List ℕ → List (List ℕ) → Option Seen
authority_seen l word more = if bytes_eq word (codes "stop") then Some (seen.Authority None) else route_seen l more

-- ---- a line

abbrev pub told_of : Option Lane → Option Seen → Option Told
told_of (Some lane) (Some seen) = Some (record { lane = lane; seen = seen })
told_of (Some lane) None = None
told_of None seen = None

abbrev pub known_words : Site → List ℕ → List ℕ → List ℕ → List (List ℕ) → Option Told
known_words l thing name word more =
    if bytes_eq thing (codes "link") then told_of (link_lane l name) (link_seen word)
    else if bytes_eq thing (codes "section") then told_of (section_lane l name) (section_seen word)
    else if bytes_eq thing (codes "point") then told_of (point_lane l name) (position_seen word)
    else if bytes_eq thing (codes "signal") then told_of (signal_lane l kind.Authority name) (authority_seen l word more)
    else if bytes_eq thing (codes "indicates") then told_of (signal_lane l kind.Aspect name) (aspect_seen word)
    else if bytes_eq thing (codes "route") then told_of (Some (lane_of kind.Route (route_named l name).0)) (progress_seen word)
    else None

-- what the words of a line to the operator tell of a lane
abbrev pub known_said : Site → List (List ℕ) → Option Told
known_said l (thing ∷ name ∷ word ∷ more) = known_words l thing name word more
known_said l other = None
