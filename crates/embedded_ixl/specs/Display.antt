-- What is known of the things of a station, for a display.
use Rattle.std.specs.Prelude.{ℕ, Bool, true, false, List, Option, Some, None, slice_get}
use Rattle.ixl_state.specs.layout.Entries.{Site}
use Rattle.ixl_state.specs.layout.Nodes.{Node, Interlocking, Signal, Point, Detector, node_at}
use Rattle.ixl_state.specs.sci_telegram.declared.message.Occupancy.{Occupancy}
use Rattle.ixl_state.specs.sci_telegram.declared.message.Occupancy.TheVariants as occupancies
use Rattle.ixl_state.specs.sci_telegram.declared.message.Side.{Side}
use Rattle.ixl_state.specs.sci_telegram.declared.message.Side.TheVariants as sides
use Rattle.ixl_state.specs.ixl_client.Client.{is_ready}
use Rattle.ixl_state.specs.ixl_spec.State.{IxlState}
use Rattle.ixl_state.specs.ixl_spec.Table.{Row, at}
use Rattle.ixl_state.specs.ixl_spec.View.{is_point_ready, is_set, is_signal_ready}
use Rattle.embedded_ixl.specs.declared.display.Authority.{Authority}
use Rattle.embedded_ixl.specs.declared.display.Readiness.{Readiness}
use Rattle.embedded_ixl.specs.declared.display.Readiness.TheVariants.{Holding, WaitingForResume, TakesRequests}

-- a route that has authority, with its aspect
abbrev pub with_aspect : ℕ → Option Row → Option Authority
with_aspect route None = None
with_aspect route (Some row) = Some (record { route = record { 0 = route }; aspect = row.aspect })

abbrev pub authority_of : List Row → Option ℕ → Option Authority
authority_of rows None = None
authority_of rows (Some route) = with_aspect route (slice_get rows route)

-- by whether a section is known to be clear, and to be occupied
abbrev pub occupancy_known : Bool → Bool → Option Occupancy
occupancy_known true occupied = Some occupancies.Clear
occupancy_known false true = Some occupancies.Occupied
occupancy_known false false = None

-- by whether a point is known to lie right, and left
abbrev pub side_known : Bool → Bool → Option Side
side_known true left = Some sides.Right
side_known false true = Some sides.Left
side_known false false = None

-- the initialisation of a controller is completed in the present connection
abbrev pub is_detector_linked : IxlState → ℕ → Bool
is_detector_linked state place = at state.detectors place (λ detector. is_ready detector.client.stage)

abbrev pub is_node_linked : IxlState → Option Node → Bool
is_node_linked state (Some (Signal place)) = is_signal_ready state place
is_node_linked state (Some (Point place)) = is_point_ready state place
is_node_linked state (Some (Detector place)) = is_detector_linked state place
is_node_linked state (Some Interlocking) = false
is_node_linked state None = false

-- of the node of this number: the interlocking is 0
abbrev pub is_linked : Site → IxlState → ℕ → Bool
is_linked site state number = is_node_linked state (node_at site number)

abbrev pub is_set_at : IxlState → ℕ → Bool
is_set_at state place = at state.routes place (λ route. is_set route.phase)

-- by whether it holds, and whether it was told to resume
abbrev pub readiness_of : Bool → Bool → Readiness
readiness_of true resumed = Holding
readiness_of false true = TakesRequests
readiness_of false false = WaitingForResume
