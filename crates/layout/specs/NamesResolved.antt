-- Which entry each name is, and the layout that a text is.
use Rattle.std.specs.Prelude.{ℕ, ◌-◌, ◌==◌, Bool, true, false, List, Option, Some, None, is_some, Ok, Err, if◌then◌else◌}
use Rattle.std.specs.Option.{ok_or, option_and_then}
use Rattle.std.specs.Map.{lookup}
use Rattle.toml.specs.Data.{Members}
use Rattle.sci_telegram.specs.declared.message.Side.{Side}
use Rattle.layout_text.specs.declared.fault.LayoutFault.TheVariants.{UnknownName}
use Rattle.layout_text.specs.declared.fault.Place.{Place}
use Rattle.layout_text.specs.declared.fault.TableName.{TableName}
use Rattle.layout_text.specs.declared.fault.TableName.TheVariants as named
use Rattle.layout.specs.declared.ids.SectionId.{SectionId}
use Rattle.layout.specs.declared.ids.PointId.{PointId}
use Rattle.layout.specs.declared.ids.SignalId.{SignalId}
use Rattle.layout.specs.declared.ids.RouteId.{RouteId}
use Rattle.layout.specs.declared.port.Port.{Port}
use Rattle.layout.specs.declared.port.Element.{Element}
use Rattle.layout.specs.declared.port.Element.TheVariants as element
use Rattle.layout_text.specs.declared.entries.End.{End}
use Rattle.layout_text.specs.declared.entries.End.TheVariants as end
use Rattle.layout.specs.declared.entries.Track.{Track}
use Rattle.layout.specs.declared.entries.Point.{Point}
use Rattle.layout.specs.declared.entries.Joint.{Joint}
use Rattle.layout.specs.declared.entries.Signal.{Signal}
use Rattle.layout.specs.declared.entries.Exit.{Exit}
use Rattle.layout.specs.declared.entries.Exit.TheVariants as exit
use Rattle.layout_text.specs.declared.entries.PortName.{PortName}
use Rattle.layout_text.specs.declared.entries.WrittenTrack.{WrittenTrack}
use Rattle.layout_text.specs.declared.entries.WrittenPoint.{WrittenPoint}
use Rattle.layout_text.specs.declared.entries.WrittenJoint.{WrittenJoint}
use Rattle.layout_text.specs.declared.entries.WrittenSignal.{WrittenSignal}
use Rattle.layout.specs.Entries.{DetectorEntry, RouteEntry, Site}
use Rattle.layout_text.specs.Written.{DetectorText, RouteText, LayoutText}
use Rattle.layout_text.specs.FirstFault.{Read, ◌>>=◌, each_of, all_of}
use Rattle.layout.specs.Known.{same_name}
use Rattle.toml.specs.Parse.{parse_document}
use Rattle.layout_text.specs.Text.{text_of, document_of}
use Rattle.layout_text.specs.Limits.{limits_of, all_within}
use Rattle.layout.specs.Doubles.{directory_of, ids_of, reported_of, joined_of, signalled_of}

-- the tables, counted in reading order
abbrev pub table_number : TableName → ℕ
table_number named.Station = 0
table_number named.Section = 1
table_number named.Track = 2
table_number named.Point = 3
table_number named.Border = 4
table_number named.Joint = 5
table_number named.Signal = 6
table_number named.Detector = 7
table_number named.Route = 8

-- which element of the layout an entry of the text is
abbrev pub element_of : TableName → ℕ → Option Element
element_of named.Track n = Some (element.Track (record { 0 = n }))
element_of named.Point n = Some (element.Point (record { 0 = n }))
element_of named.Border n = Some (element.Border (record { 0 = n }))
element_of _ n = None

-- which exit of a route
abbrev pub exit_of : TableName → ℕ → Option Exit
exit_of named.Signal n = Some (exit.Signal (record { 0 = n }))
exit_of named.Border n = Some (exit.Border (record { 0 = n }))
exit_of _ n = None

-- a track has the ports a and b, a point tip, left and right, a border end
abbrev pub has_port : Element → End → Bool
has_port (element.Track _) end.A = true
has_port (element.Track _) end.B = true
has_port (element.Point _) end.Tip = true
has_port (element.Point _) end.Left = true
has_port (element.Point _) end.Right = true
has_port (element.Border _) end.End = true
has_port _ _ = false

-- The directory leads from a name to the place of its entry. Places count from 1, ids from 0.
module _ (directory : List (List ℕ × Place)) (place : Place) where
  abbrev pub entry_named : List ℕ → Option Place
  entry_named name = lookup (same_name name) directory

  -- the number of the entry of a table that has this name
  abbrev pub number_in : TableName → Option Place → Read ℕ
  number_in table None = Err (UnknownName place)
  number_in table (Some found) = if table_number found.table == table_number table then Ok (found.entry - 1) else Err (UnknownName place)

  abbrev pub number_named : TableName → List ℕ → Read ℕ
  number_named table name = number_in table (entry_named name)

  unfoldable pub section_named : List ℕ → Read SectionId
  section_named name = number_named named.Section name >>= λ n. Ok (record { 0 = n })

  unfoldable pub signal_named : List ℕ → Read SignalId
  signal_named name = number_named named.Signal name >>= λ n. Ok (record { 0 = n })

  unfoldable pub route_named : List ℕ → Read RouteId
  route_named name = number_named named.Route name >>= λ n. Ok (record { 0 = n })

  unfoldable pub side_named : List ℕ × Side → Read (PointId × Side)
  side_named p = number_named named.Point p.0 >>= λ n. Ok (record { 0 = n }, p.1)

  unfoldable pub exit_named : List ℕ → Read Exit
  exit_named name = ok_or (option_and_then (λ found. exit_of found.table (found.entry - 1)) (entry_named name)) (UnknownName place)

  unfoldable pub element_named : List ℕ → Read Element
  element_named name = ok_or (option_and_then (λ found. element_of found.table (found.entry - 1)) (entry_named name)) (UnknownName place)

  unfoldable pub port_named : PortName → Read Port
  port_named p = element_named p.element >>= λ e. if has_port e p.end then Ok (record { element = e; end = p.end }) else Err (UnknownName place)

  -- ---- the entries

  unfoldable pub track_named : WrittenTrack → Read Track
  track_named t = section_named t.section >>= λ section. Ok (record { name = t.name; section = section })

  unfoldable pub point_named : WrittenPoint → Read Point
  point_named p = section_named p.section >>= λ section. Ok (record { name = p.name; id = p.id; section = section })

  unfoldable pub joint_named : WrittenJoint → Read Joint
  joint_named joint = do
    first ← port_named joint.first
    second ← port_named joint.second
    Ok (record { first = first; second = second })

  unfoldable pub signal_entry : WrittenSignal → Read Signal
  signal_entry s = port_named s.at >>= λ at. Ok (record { name = s.name; id = s.id; at = at })

  unfoldable pub detector_entry : DetectorText → Read DetectorEntry
  detector_entry d = all_of section_named d.sections >>= λ sections. Ok (record { name = d.name; id = d.id; sections = sections })

  unfoldable pub route_entry : RouteText → Read RouteEntry
  route_entry r = do
    entry ← signal_named r.entry
    exit ← exit_named r.exit
    path ← all_of port_named r.path
    points ← all_of side_named r.points
    flank ← all_of side_named r.flank
    approach ← all_of section_named r.approach
    extra ← all_of route_named r.extra
    Ok (record { name = r.name; entry = entry; exit = exit; path = path; points = points; flank = flank; approach = approach; extra = extra; aspect = r.aspect })

-- each section is reported by some detector
abbrev pub section_reported : List (List ℕ × Place) → Place → List ℕ → Read (Unit {0})
section_reported reported place name = if is_some (lookup (same_name name) reported) then Ok tt else Err (UnknownName place)

-- the entries of a text, with names resolved in reading order
unfoldable pub site_of : List (List ℕ × Place) → LayoutText → Read Site
site_of directory text = do
  tracks ← each_of (track_named directory) named.Track 1 text.tracks
  points ← each_of (point_named directory) named.Point 1 text.points
  joints ← each_of (joint_named directory) named.Joint 1 text.joints
  signals ← each_of (signal_entry directory) named.Signal 1 text.signals
  detectors ← each_of (detector_entry directory) named.Detector 1 text.detectors
  routes ← each_of (route_entry directory) named.Route 1 text.routes
  Ok (record { station = text.station; sections = text.sections; tracks = tracks; points = points; borders = text.borders; joints = joints; signals = signals; detectors = detectors; routes = routes })

-- The limits are kept, and no name and no identity is used twice.
unfoldable pub names_of : LayoutText → Read (List (List ℕ × Place))
names_of text = do
  limits ← limits_of text
  directory ← directory_of text
  ids ← ids_of text
  Ok directory

-- Every name is there, and every section reported, by one detector.
unfoldable pub entries_of : LayoutText → Read Site
entries_of text = do
  directory ← names_of text
  reported ← reported_of text.detectors
  site ← site_of directory text
  sections ← all_within (section_reported reported) named.Section site.sections
  Ok site

-- No port is joined twice, and no two signals stand at one.
unfoldable pub ports_once : Site → Read (Unit {0})
ports_once site = do
  joined ← joined_of site.joints
  signalled ← signalled_of site.signals
  Ok tt

-- The layout that a document is, or its first fault: missing keys and wrong kinds in reading order, limits, names
-- and identities used twice, unknown names, ports used twice.
unfoldable pub layout_of : Members → Read Site
layout_of document = do
  text ← text_of document
  site ← entries_of text
  ports ← ports_once site
  Ok site

-- the layout that a text is
unfoldable pub layout_in : List ℕ → Read Site
layout_in text = document_of (parse_document text) >>= λ document. layout_of document
