-- From one moment of an interlocking to the next: steps, passing time, being made anew, and what its controllers do.
use Rattle.std.specs.Prelude.{◌≡◌, ◌≢◌, ◌<◌, ℕ, Bool, false, Option, Some, None, slice_get, if◌then◌else◌}
use Rattle.ixl_spec.specs.rasta_core.Parameters.{greatest}
use Rattle.ixl_spec.specs.StepSoFar.{StepSoFar}
use Rattle.ixl_spec.specs.State.{IxlState, KnownSignalState, RouteState, KnownPointState}
use Rattle.ixl_spec.specs.Step.{Input}
use Rattle.ixl_spec.specs.View.{has_authority, is_holding}
use Rattle.simulator_machine.specs.Chains.{MovesTo}
use Rattle.simulator_machine.specs.Link.{Down, Gone, In}
use Rattle.simulator_machine.specs.Machine.{Machine}
use Rattle.simulator_machine.specs.Point.{Point as MachinePoint, moves_given}
use Rattle.simulator_machine.specs.Signal.{Signal as MachineSignal, aspects_given}
use Rattle.simulator_machine.specs.Table.{Table}
use Rattle.simulator_move_laws.specs.Behind.{Behind, given_behind}
use Rattle.simulator_move_laws.specs.Link.{client_at}
use Rattle.simulator_move_laws.specs.Sees.{Given, Sees}
use Rattle.simulator_move_laws.specs.Step.{PointStays, SignalStays}

-- ---- a step

-- The machine comes to what a whole step leads to, and it sees the interlocking then as it did before.
pub record IsStepped (now : ℕ) (input : Input) (table : Table) (ixl : IxlState) (given : Given) (machine : Machine) (part : StepSoFar) (new : Machine) : Type 0 where
  pub behind : Behind now input table ixl given machine part new
  pub sees : Sees now part.ixl (given_behind now ixl part.calls given) new

-- ---- time

-- What is known of the far ends when time has passed to this clock reading: when a client's quiet time is over no server is
-- in its connection, which the link's theorem gives.
pub record AreAloneAfterQuiet (now : ℕ) (ixl : IxlState) (machine : Machine) : Type 0 where
  pub clock : now < greatest
  pub signals : (place : ℕ) (known_signal : KnownSignalState) → slice_get ixl.known_signals place ≡ Some known_signal → client_at now known_signal.client.link ≡ Down → (machine.signals place).link.server ≢ In
  pub points : (place : ℕ) (known_point : KnownPointState) → slice_get ixl.known_points place ≡ Some known_point → client_at now known_point.client.link ≡ Down → (machine.points place).link.server ≢ In

-- The machine makes moves that leave the far ends as they are.
pub record Keeps (table : Table) (old new : Machine) : Type 0 where
  pub moves : MovesTo table old new
  pub signals : (place : ℕ) → SignalStays (old.signals place) (new.signals place)
  pub points : (place : ℕ) → PointStays (old.points place) (new.points place)
  -- and nothing is given
  pub aspects : (place : ℕ) → aspects_given (new.signals place) ≡ aspects_given (old.signals place)
  pub given : (place : ℕ) → moves_given (new.points place) ≡ moves_given (old.points place)

-- The interlocking makes no call until a later reading of its clock. Links close by the clock, quiet times end, and so does
-- the hold.
pub record IsPassed (later : ℕ) (table : Table) (ixl : IxlState) (given : Given) (old new : Machine) : Type 0 where
  pub keeps : Keeps table old new
  pub frozen : new.frozen ≡ old.frozen
  pub sees : Sees later ixl given new

-- ---- being made anew

abbrev pub has_authority_there : Option RouteState → Bool
has_authority_there None = false
has_authority_there (Some route) = has_authority route.phase

-- The routes that are held: in a hold those that are frozen, and outside it those with authority.
abbrev pub held_routes : ℕ → IxlState → (ℕ → Bool) → ℕ → Bool
held_routes now ixl frozen number = if is_holding now ixl then frozen number else has_authority_there (slice_get ixl.routes number)

-- An interlocking is made anew, at a reading of its clock, in place of one that was at another: the routes that were held
-- are frozen.
pub record IsMadeAnew (now later : ℕ) (table : Table) (old anew : IxlState) (given : Given) (machine new : Machine) : Type 0 where
  pub keeps : Keeps table machine new
  pub frozen : (number : ℕ) → new.frozen number ≡ held_routes now old machine.frozen number
  pub sees : Sees later anew given new

-- ---- what controllers do

-- What the interlocking sees of a signal, and of a point, is the same.
pub record SignalLooksAlike (old new : MachineSignal) : Type 0 where
  pub client : new.link.client ≡ old.link.client
  pub aspects : aspects_given new ≡ aspects_given old
  pub confirmed : new.confirmed ≡ old.confirmed

pub record PointLooksAlike (old new : MachinePoint) : Type 0 where
  pub client : new.link.client ≡ old.link.client
  pub moves : moves_given new ≡ moves_given old
  pub heard : new.heard ≡ old.heard

-- Controllers change nothing that the interlocking sees, and one that it lacks enters no connection.
pub record LooksAlike (ixl : IxlState) (old new : Machine) : Type 0 where
  pub signals : (place : ℕ) → SignalLooksAlike (old.signals place) (new.signals place)
  pub points : (place : ℕ) → PointLooksAlike (old.points place) (new.points place)
  pub unknown : (place : ℕ) → slice_get ixl.known_signals place ≡ None → (old.signals place).link.server ≡ Gone → (new.signals place).link.server ≡ Gone
  pub routes : new.routes ≡ old.routes
  pub holding : new.holding ≡ old.holding
  pub frozen : new.frozen ≡ old.frozen
