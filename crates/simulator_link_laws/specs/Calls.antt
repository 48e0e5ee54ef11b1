-- The calls that a client of the interlocking makes of its link, as calls of an end of it.
use Rattle.std.specs.Prelude.{ℕ, ◌<◌, List, [], ◌∷◌, length}
use Rattle.simulator_spec.specs.layout.Entries.{Site}
use Rattle.simulator_spec.specs.ixl_client.ClientSoFar.{LinkCall, as_call}
use Rattle.simulator_spec.specs.ixl_spec.StepSoFar.{Node, Signal, Point, Detector}
use Rattle.simulator_spec.specs.rasta_core.Nodes.{NodeCall}
use Rattle.simulator_spec.specs.Nodes.{detector_link, point_link}

-- a controller of the layout
abbrev pub IsNodeOf : Site → Node → Type 0
IsNodeOf site (Signal place) = place < length site.signals
IsNodeOf site (Point place) = place < length site.points
IsNodeOf site (Detector place) = place < length site.detectors

-- calls at the clients of controllers of the layout
abbrev pub AreOfNodes : Site → List (Node × LinkCall) → Type 0
AreOfNodes site [] = Unit {0}
AreOfNodes site (first ∷ others) = IsNodeOf site first.0 × AreOfNodes site others

-- the link of a controller
abbrev pub link_at : Site → Node → ℕ
link_at site (Signal place) = place
link_at site (Point place) = point_link site place
link_at site (Detector place) = detector_link site place

abbrev pub node_call : Site → ℕ → Node × LinkCall → NodeCall
node_call site connection made = record { link = link_at site made.0; call = as_call connection made.1 }
