-- What stands in a layout once: names, identities, sections of detectors, and ports.
use Rattle.std.specs.Prelude.{ℕ, ◌==◌, Bool, List, [], ◌∷◌, map}
use Rattle.layout_text.specs.declared.fault.Place.{Place}
use Rattle.layout_text.specs.declared.fault.TableName.TheVariants as named
use Rattle.layout.specs.declared.known.Double.TheVariants as double
use Rattle.layout.specs.declared.port.Port.{Port}
use Rattle.layout.specs.declared.entries.Joint.{Joint}
use Rattle.layout.specs.declared.entries.Signal.{Signal}
use Rattle.layout_text.specs.FirstFault.{Read, ◌>>=◌}
use Rattle.layout.specs.Known.{note_key, note_each, note_lists, same_name, same_port}
use Rattle.layout_text.specs.Written.{DetectorText, LayoutText}

abbrev pub same_id : ℕ → ℕ → Bool
same_id a b = a == b

-- All names are of one set, in reading order. Each name leads to its place.
unfoldable pub ground_of : LayoutText → Read (List (List ℕ × Place))
ground_of text = do
  station ← note_key same_name double.Name [] text.station.name (record { table = named.Station; entry = 1 })
  sections ← note_each same_name double.Name named.Section 1 text.sections station
  tracks ← note_each same_name double.Name named.Track 1 (map (λ t. t.name) text.tracks) sections
  points ← note_each same_name double.Name named.Point 1 (map (λ p. p.name) text.points) tracks
  note_each same_name double.Name named.Border 1 text.borders points

unfoldable pub directory_of : LayoutText → Read (List (List ℕ × Place))
directory_of text = do
  borders ← ground_of text
  signals ← note_each same_name double.Name named.Signal 1 (map (λ s. s.name) text.signals) borders
  detectors ← note_each same_name double.Name named.Detector 1 (map (λ d. d.name) text.detectors) signals
  note_each same_name double.Name named.Route 1 (map (λ r. r.name) text.routes) detectors

-- The identities of the nodes are of one set.
unfoldable pub ids_of : LayoutText → Read (List (ℕ × Place))
ids_of text = do
  station ← note_key same_id double.Name [] text.station.id (record { table = named.Station; entry = 1 })
  points ← note_each same_id double.Name named.Point 1 (map (λ p. p.id) text.points) station
  signals ← note_each same_id double.Name named.Signal 1 (map (λ s. s.id) text.signals) points
  note_each same_id double.Name named.Detector 1 (map (λ d. d.id) text.detectors) signals

-- No section is reported by two detectors, or twice by one.
abbrev pub sections_reported : DetectorText → List (List ℕ)
sections_reported d = d.sections

unfoldable pub reported_of : List DetectorText → Read (List (List ℕ × Place))
reported_of detectors = note_lists same_name double.Name sections_reported named.Detector 1 detectors []

-- No port stands in two joints, or twice in one.
abbrev pub ports_joined : Joint → List Port
ports_joined joint = joint.first ∷ joint.second ∷ []

unfoldable pub joined_of : List Joint → Read (List (Port × Place))
joined_of joints = note_lists same_port double.Joint ports_joined named.Joint 1 joints []

-- No two signals stand at one port.
unfoldable pub signalled_of : List Signal → Read (List (Port × Place))
signalled_of signals = note_each same_port double.Joint named.Signal 1 (map (λ s. s.at) signals) []
