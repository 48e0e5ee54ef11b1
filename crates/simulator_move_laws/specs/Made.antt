-- An interlocking that was just made, or made anew, and the machine then.
use Rattle.std.specs.Prelude.{◌≡◌, ℕ, true, Some, None, slice_get}
use Rattle.ixl_spec.specs.rasta_core.State.{is_client}
use Rattle.ixl_spec.specs.ixl_client.Client.{ClientState}
use Rattle.ixl_spec.specs.ixl_client.declared.stage.Stage.TheVariants as stage
use Rattle.ixl_spec.specs.State.{IxlState, KnownSignalState, RouteState, KnownPointState}
use Rattle.simulator_machine.specs.Link.{Gone, Quiet}
use Rattle.simulator_machine.specs.Machine.{Machine}
use Rattle.simulator_machine.specs.Route.{Free}
use Rattle.simulator_move_laws.specs.Nodes.{IsOfPoint, phase_seen}
use Rattle.simulator_move_laws.specs.Sees.{IsClosedSince}

-- a client that has had no connection since this clock reading
pub record IsMadeClient (created : ℕ) (client : ClientState) : Type 0 where
  pub since : IsClosedSince created client.link
  pub outside : client.stage ≡ stage.Outside
  pub opens : is_client client.link.identity.role ≡ true

-- All links are outside since its creation, and nothing is set.
pub record IsJustMade (ixl : IxlState) : Type 0 where
  pub known_signals : (place : ℕ) (known_signal : KnownSignalState) → slice_get ixl.known_signals place ≡ Some known_signal → IsMadeClient ixl.created known_signal.client
  pub known_points : (place : ℕ) (known_point : KnownPointState) → slice_get ixl.known_points place ≡ Some known_point → IsMadeClient ixl.created known_point.client × IsOfPoint known_point.client.peer
  pub routes : (number : ℕ) (route : RouteState) → slice_get ixl.routes number ≡ Some route → phase_seen route.phase ≡ Free

-- The machine holds, its clients are quiet, and nothing is set; a signal that the interlocking lacks has no server.
pub record IsQuietMachine (ixl : IxlState) (machine : Machine) : Type 0 where
  pub signals : (place : ℕ) → (machine.signals place).link.client ≡ Quiet
  pub points : (place : ℕ) → (machine.points place).link.client ≡ Quiet
  pub routes : (number : ℕ) → machine.routes number ≡ Free
  pub holding : machine.holding ≡ true
  pub unknown : (place : ℕ) → slice_get ixl.known_signals place ≡ None → (machine.signals place).link.server ≡ Gone
