-- The rows of a chart, and by which identity each of them goes.
use Rattle.std.specs.Prelude.{ℕ, ◌+◌, List, [], ◌∷◌, ◌++◌, codes, map}
use Rattle.control_table.specs.layout.Entries.{Site}
use Rattle.lane_chart.specs.declared.subject.Row.{Row}
use Rattle.lane_chart.specs.declared.subject.Sort.{Sort}
use Rattle.lane_chart.specs.declared.subject.Sort.TheVariants as sort
use Rattle.lane_chart.specs.declared.subject.Subject.{Subject}

abbrev pub subject_of : Sort → List ℕ → Subject
subject_of of name = record { sort = of; name = name }

abbrev pub row_of : Sort → ℕ → List ℕ → Row
row_of of place name = record { subject = subject_of of name; place = place }

-- a row for each entry of a table, from a place on
abbrev pub numbered : {A : Type 0} → (A → List ℕ) → Sort → ℕ → List A → List Row
numbered name of place [] = []
numbered name of place (entry ∷ others) = row_of of place (name entry) ∷ numbered name of (place + 1) others

-- signals, points, sections and routes
abbrev pub field_rows : Site → List Row
field_rows l =
    numbered (λ s. s.name) sort.Signal 0 l.signals ++ (numbered (λ p. p.name) sort.Point 0 l.points
    ++ (numbered (λ name. name) sort.Section 0 l.sections ++ numbered (λ r. r.name) sort.Route 0 l.routes))

-- links
abbrev pub link_rows : Site → List Row
link_rows l =
    numbered (λ s. s.name) sort.SignalLink 0 l.signals ++ (numbered (λ p. p.name) sort.PointLink 0 l.points
    ++ numbered (λ d. d.name) sort.DetectorLink 0 l.detectors)

-- nodes
abbrev pub node_rows : Site → List Row
node_rows l =
    row_of sort.Interlocking 0 l.station.name ∷ numbered (λ s. s.name) sort.SignalNode 0 l.signals
    ++ (numbered (λ p. p.name) sort.PointNode 0 l.points ++ numbered (λ d. d.name) sort.DetectorNode 0 l.detectors)

-- All rows of a chart, each once: signals, points, sections, routes, the links and the nodes, each in the order of the
-- layout.
abbrev pub rows_of : Site → List Row
rows_of l = field_rows l ++ (link_rows l ++ node_rows l)

-- what rows are for
abbrev pub subjects_of : List Row → List Subject
subjects_of rows = map (λ row. row.subject) rows

-- ---- identities

abbrev pub kind_text : Sort → List ℕ
kind_text sort.Signal = codes "signal"
kind_text sort.Point = codes "point"
kind_text sort.Section = codes "section"
kind_text sort.Route = codes "route"
kind_text sort.SignalLink = codes "link"
kind_text sort.PointLink = codes "link"
kind_text sort.DetectorLink = codes "link"
kind_text sort.Interlocking = codes "node"
kind_text sort.SignalNode = codes "node"
kind_text sort.PointNode = codes "node"
kind_text sort.DetectorNode = codes "node"

-- The identity of a row: its kind and its name, joined by a dot, which no name has.
abbrev pub subject_id : Subject → List ℕ
subject_id s = kind_text s.sort ++ (codes "." ++ s.name)

-- by which identities rows go
abbrev pub row_ids : List Row → List (List ℕ)
row_ids rows = map (λ row. subject_id row.subject) rows
