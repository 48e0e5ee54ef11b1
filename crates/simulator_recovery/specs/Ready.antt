-- A link of a station that is ready at both ends.
use Rattle.std.specs.Prelude.{◌≡◌, ℕ, true, List, Option, Some, None, slice_get}
use Rattle.simulator_spec.specs.layout.Entries.{Site}
use Rattle.simulator_spec.specs.object_host.declared.stage.Stage.{Stage}
use Rattle.simulator_spec.specs.object_host.declared.stage.Stage.TheVariants as stage
use Rattle.simulator_spec.specs.ixl_client.Client.{ClientState, is_ready}
use Rattle.simulator_spec.specs.Nodes.{Detector, Interlocking, Node, Point, Signal, controller_at}
use Rattle.simulator_spec.specs.State.{ClockedControllerState, WorldState}
use Rattle.simulator_link_laws.specs.Whole.{client_states}
use Rattle.simulator_recovery.specs.LinkRounds.{IsUpOn}

-- the connection of this controller of a list has come so far
abbrev pub IsAtStage : {Object : Type 0} → List (ClockedControllerState Object) → ℕ → Stage → Type 0
IsAtStage {Object} controllers place how_far = (controller : ClockedControllerState Object) × (slice_get controllers place ≡ Some controller) × (controller.host.stage ≡ how_far)

-- so has that of the controller that is this node
abbrev pub HostIsAt : Option Node → WorldState → Stage → Type 0
HostIsAt None world how_far = ⊥
HostIsAt (Some Interlocking) world how_far = ⊥
HostIsAt (Some (Signal place)) world how_far = IsAtStage world.signals place how_far
HostIsAt (Some (Point place)) world how_far = IsAtStage world.points place how_far
HostIsAt (Some (Detector place)) world how_far = IsAtStage world.detectors place how_far

-- A link is ready at both ends: both are up, and the initialisation of their connection is completed at both.
pub record IsReadyOn (site : Site) (link : ℕ) (world : WorldState) : Type 0 where
  pub up : IsUpOn link world
  pub client : ClientState
  pub there : slice_get (client_states world.interlocking.ixl) link ≡ Some client
  pub client_ready : is_ready client.stage ≡ true
  pub host_ready : HostIsAt (controller_at site link) world stage.Completed

-- from this good round on each link is ready at both ends where neither comes to the limit of PDUs: 15,650 ms after the good rounds began
abbrev pub ready_rounds : ℕ
ready_rounds = 1565
