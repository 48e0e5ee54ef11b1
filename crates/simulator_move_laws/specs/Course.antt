-- What happens to an interlocking and at its controllers, one after another, and what is known where it does.
use Rattle.std.specs.Prelude.{◌≡◌, ◌≤◌, ◌<◌, ℕ, Bool, List, [], ◌∷◌, length}
use Rattle.ixl_spec.specs.rasta_core.Outbox.{OutboxState}
use Rattle.ixl_spec.specs.rasta_core.Parameters.{greatest}
use Rattle.ixl_spec.specs.rasta_pdu.declared.key.Key.{Key}
use Rattle.ixl_spec.specs.StepSoFar.{StepSoFar, begun_with}
use Rattle.ixl_spec.specs.State.{IxlState}
use Rattle.ixl_spec.specs.Step.{Input, stepped}
use Rattle.ixl_spec.specs.Table.{Table}
use Rattle.simulator_machine.specs.Chains.{MovesTo}
use Rattle.simulator_machine.specs.Machine.{Machine}
use Rattle.simulator_move_laws.specs.Behind.{given_behind}
use Rattle.simulator_move_laws.specs.Facts.{FarEnds}
use Rattle.simulator_move_laws.specs.Made.{IsJustMade}
use Rattle.simulator_move_laws.specs.Onward.{AreAloneAfterQuiet, IsMadeAnew, IsPassed, IsStepped, LooksAlike, held_routes}
use Rattle.simulator_move_laws.specs.Rows.{machine_table}
use Rattle.simulator_move_laws.specs.Sees.{Given, Sees}

-- an interlocking at a reading of its clock, what its clients gave and took in their last connections, and the routes that
-- were frozen when it was last made anew
pub record Moment : Type 0 where
  pub clock : ℕ
  pub ixl : IxlState
  pub given : Given
  pub frozen : ℕ → Bool

pub data Happening : Type 0 where
  -- it makes a step
  Steps : Key → Input → OutboxState → Happening
  -- its clock goes on to this reading
  Passes : (later : ℕ) → Happening
  -- another is made in its place at this reading
  IsReplaced : (later : ℕ) → IxlState → Given → Happening
  -- its controllers do something, and the machine comes to this
  IsAnswered : Machine → Happening

-- what a step does
abbrev pub step_of : Table → Key → Input → OutboxState → Moment → StepSoFar
step_of table key input outbox moment = stepped moment.clock table key input (begun_with moment.ixl outbox)

unfoldable pub moment_after : Table → Happening → Moment → Moment
moment_after table (Steps key input outbox) moment = record {
  clock = moment.clock;
  ixl = (step_of table key input outbox moment).ixl;
  given = given_behind moment.clock moment.ixl (step_of table key input outbox moment).calls moment.given;
  frozen = moment.frozen;
}
moment_after table (Passes later) moment = record moment { clock = later }
moment_after table (IsReplaced later ixl given) moment = record { clock = later; ixl = ixl; given = given; frozen = held_routes moment.clock moment.ixl moment.frozen }
moment_after table (IsAnswered machine) moment = moment

unfoldable pub moments_after : Table → List Happening → Moment → Moment
moments_after table [] moment = moment
moments_after table (first ∷ others) moment = moments_after table others (moment_after table first moment)

-- It has the signals of the one before, and as many routes as the table.
pub record MayReplace (table : Table) (later : ℕ) (old new : IxlState) : Type 0 where
  pub made : IsJustMade new
  pub created : new.created ≡ later
  pub clock : later < greatest
  pub signals : length new.known_signals ≡ length old.known_signals
  pub routes : length new.routes ≡ length table.rows

-- what is known where it happens
abbrev pub MayHappen : Table → Happening → Moment → Machine → Type 0
MayHappen table (Steps key input outbox) moment machine = FarEnds moment.clock input moment.ixl moment.given machine
MayHappen table (Passes later) moment machine = (moment.clock ≤ later) × AreAloneAfterQuiet later moment.ixl machine
MayHappen table (IsReplaced later ixl given) moment machine = MayReplace table later moment.ixl ixl
MayHappen table (IsAnswered new) moment machine = MovesTo (machine_table table) machine new × LooksAlike moment.ixl machine new

-- what the machine comes to
abbrev pub ComesTo : Table → Happening → Moment → Machine → Machine → Type 0
ComesTo table (Steps key input outbox) moment old new =
    IsStepped moment.clock input (machine_table table) moment.ixl moment.given old (step_of table key input outbox moment) new
ComesTo table (Passes later) moment old new = IsPassed later (machine_table table) moment.ixl moment.given old new
ComesTo table (IsReplaced later ixl given) moment old new = IsMadeAnew moment.clock later (machine_table table) moment.ixl ixl given old new
ComesTo table (IsAnswered machine) moment old new = new ≡ machine

-- One after another: what is known of each is known wherever the machine came to before it.
unfoldable pub MayAllHappen : Table → List Happening → Moment → Machine → Type 0
MayAllHappen table [] moment machine = Unit {0}
MayAllHappen table (first ∷ others) moment machine =
    MayHappen table first moment machine
    × ((new : Machine) → ComesTo table first moment machine new → MayAllHappen table others (moment_after table first moment) new)

-- The machine sees the interlocking and its frozen routes; and it has as many routes as the table.
pub record SeesAt (table : Table) (moment : Moment) (machine : Machine) : Type 0 where
  pub sees : Sees moment.clock moment.ixl moment.given machine
  pub frozen : (number : ℕ) → machine.frozen number ≡ moment.frozen number
  pub routes : length moment.ixl.routes ≡ length table.rows
