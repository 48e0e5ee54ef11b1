-- The nodes of a station: how many, under which names and identities, and by which numbers events name them.
use Rattle.std.specs.Prelude.{ℕ, zero, suc, ◌+◌, ◌-◌, ◌<◌, nat_lt, List, [], ◌∷◌, ◌++◌, length, map, Option, Some, None, slice_index_or, if◌then◌else◌}
use Rattle.layout.specs.Entries.{Site}
use Rattle.layout.specs.declared.node.Node as code
use Rattle.layout.specs.declared.node.Node.TheVariants as variants

-- how many object controllers there are, and so how many links
abbrev pub links : Site → ℕ
links site = length site.signals + length site.points + length site.detectors

-- and how many nodes
abbrev pub nodes : Site → ℕ
nodes site = suc (links site)

-- the identities of all controllers, in the order of their links
abbrev pub partners : Site → List ℕ
partners site = map (λ s. s.id) site.signals ++ (map (λ p. p.id) site.points ++ map (λ d. d.id) site.detectors)

-- the identities of all nodes
abbrev pub identities : Site → List ℕ
identities site = site.station.id ∷ partners site

-- the names of the nodes: the station, the signals, the points and the detectors, each in layout order
abbrev pub node_names : Site → List (List ℕ)
node_names site =
    site.station.name ∷ (map (λ s. s.name) site.signals ++ (map (λ p. p.name) site.points ++ map (λ d. d.name) site.detectors))

-- A node: the interlocking, or a controller by its place among those of its kind.
pub data Node : Type 0 where
  Interlocking : Node
  Signal : ℕ → Node
  Point : ℕ → Node
  Detector : ℕ → Node

-- the links of points come after those of signals, and those of detectors last
abbrev pub point_link : Site → ℕ → ℕ
point_link site place = length site.signals + place

abbrev pub detector_link : Site → ℕ → ℕ
detector_link site place = length site.signals + length site.points + place

-- the controller of a link
abbrev pub controller_at : Site → ℕ → Option Node
controller_at site link =
    if nat_lt link (length site.signals) then Some (Signal link) else
    if nat_lt link (point_link site (length site.points)) then Some (Point (link - length site.signals)) else
    if nat_lt link (links site) then Some (Detector (link - detector_link site 0)) else
    None

-- the node of a number: the interlocking is 0, then come the controllers in the order of their links
abbrev pub node_at : Site → ℕ → Option Node
node_at site zero = Some Interlocking
node_at site (suc link) = controller_at site link

-- the number of a node
abbrev pub number_of : Site → Node → ℕ
number_of site Interlocking = 0
number_of site (Signal place) = suc place
number_of site (Point place) = suc (point_link site place)
number_of site (Detector place) = suc (detector_link site place)

-- the name of a node that is there
abbrev pub name_of : Site → Node → List ℕ
name_of site Interlocking = site.station.name
name_of site (Signal place) = slice_index_or (map (λ s. s.name) site.signals) place []
name_of site (Point place) = slice_index_or (map (λ p. p.name) site.points) place []
name_of site (Detector place) = slice_index_or (map (λ d. d.name) site.detectors) place []

-- the identity of a node that is there
abbrev pub identity_of : Site → Node → ℕ
identity_of site Interlocking = site.station.id
identity_of site (Signal place) = slice_index_or (map (λ s. s.id) site.signals) place 0
identity_of site (Point place) = slice_index_or (map (λ p. p.id) site.points) place 0
identity_of site (Detector place) = slice_index_or (map (λ d. d.id) site.detectors) place 0

-- a node is there: a layout has so many controllers of its kind
abbrev pub HasNode : Site → Node → Type 0
HasNode site Interlocking = Unit {0}
HasNode site (Signal place) = place < length site.signals
HasNode site (Point place) = place < length site.points
HasNode site (Detector place) = place < length site.detectors

-- the node that the code means
abbrev pub meant_node : code.Node → Node
meant_node variants.Interlocking = Interlocking
meant_node (variants.Signal signal) = Signal signal.0
meant_node (variants.Point point) = Point point.0
meant_node (variants.Detector detector) = Detector detector.0
