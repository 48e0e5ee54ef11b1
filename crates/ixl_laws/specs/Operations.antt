-- What closing, releasing and moving by command come to over the steps of an interlocking.
use Rattle.std.specs.Prelude.{◌≡◌, ◌≤◌, ◌==◌, ℕ, suc, true, false, List, [], ◌∷◌, map, drop, Option, Some, None, slice_get, if◌then◌else◌}
use Rattle.std.specs.Option.{option_or}
use Rattle.ixl_state.specs.release.Approach.{approach_end}
use Rattle.ixl_state.specs.sci_telegram.declared.message.Side.{Side}
use Rattle.ixl_state.specs.ixl_client.ItemsSaid.{items_sent}
use Rattle.ixl_state.specs.ixl_client.declared.command.Command.TheVariants as telegrams
use Rattle.ixl_state.specs.ixl_spec.closings.declared.closed.Closings.{Closings}
use Rattle.ixl_state.specs.ixl_spec.closings.declared.thing.Named.{Named}
use Rattle.ixl_state.specs.ixl_spec.closings.declared.thing.Thing.{Thing}
use Rattle.ixl_state.specs.ixl_spec.closings.Closed.{IsClosed, with_named, without_named}
use Rattle.ixl_state.specs.ixl_spec.Due.{IsReleaseOver, IsRouteOf, Uses}
use Rattle.ixl_state.specs.ixl_spec.State.{IxlState, KnownPointState, RouteState}
use Rattle.ixl_state.specs.ixl_spec.Step.{Accepted, Commands, Input, Reply}
use Rattle.ixl_state.specs.ixl_spec.StepSoFar.{Point}
use Rattle.ixl_state.specs.ixl_spec.Table.{Row, Table}
use Rattle.ixl_state.specs.ixl_spec.View.{is_set}
use Rattle.ixl_state.specs.ixl_spec.declared.command.Command.TheVariants as commands
use Rattle.ixl_state.specs.ixl_spec.declared.phase.Phase.TheVariants as phase
use Rattle.ixl.specs.Interlocking.{InterlockingState}
use Rattle.ixl_laws.specs.Called.{calls_at}
use Rattle.ixl_laws.specs.GivenOnce.{GivesMove, GivesTelegram, InNone, SetsAnew, StepTaken, telegram_for}
use Rattle.ixl_laws.specs.WholeStep.{FreeCancelled, TurnTaken, WholeStep, clock_left, heard}

-- ---- what is closed

-- No set route that isn't cancelled uses a thing that is closed.
abbrev pub NothingClosedIsUsed : Table → IxlState → Type 0
NothingClosedIsUsed table ixl = (number : ℕ) (row : Row) (route : RouteState) (thing : Thing) → IsRouteOf table ixl number row route
    → route.cancelled ≡ false → Uses number row route thing → IsClosed ixl.closed thing → ⊥

-- What is closed after a step: a close and an open that are accepted change it, and nothing else.
abbrev pub closed_after : Input → Reply → Closings → Closings
closed_after (Commands (commands.Close named)) Accepted closed = with_named closed named
closed_after (Commands (commands.Open named)) Accepted closed = without_named closed named
closed_after _ _ closed = closed

-- ---- move

-- In a step a point is given one move, to this side. On what the clock left its controller is sent this telegram, before any
-- rule, and no other link is called. No turn gives the point another move, and in the whole step nothing else is sent to it.
pub record IsMovedOnce (now point : ℕ) (side : Side) (input : Input) (old new : InterlockingState) (step : WholeStep now input old new) : Type 0 where
  pub known_point : KnownPointState
  pub there : slice_get (clock_left now old).ixl.known_points point ≡ Some known_point
  pub at_once : GivesTelegram (Point point) (telegram_for known_point.client (telegrams.Move side)) (clock_left now old) (heard now input old)
  pub no_other : (place : ℕ) (taken : TurnTaken) → slice_get step.turns place ≡ Some taken → GivesMove old.state.sited.table point taken → ⊥
  pub alone : items_sent (calls_at now input old (Point point)) ≡ telegram_for known_point.client (telegrams.Move side) ∷ []

-- ---- release

-- The clock of the first release that was accepted in the present setting, after a step.
abbrev pub released_after : ℕ → Input → Reply → ℕ → Option ℕ → Option ℕ
released_after now (Commands (commands.Request route)) Accepted number released = if route.0 == number then None else released
released_after now (Commands (commands.Release route)) Accepted number released = if route.0 == number then option_or released (Some now) else released
released_after now _ _ number released = released

-- a route is cancelled, and its authority is ended
abbrev pub IsCancelledAndEnded : RouteState → Type 0
IsCancelledAndEnded route = (route.cancelled ≡ true) × ((ended : ℕ) × (freed : ℕ) × (route.phase ≡ phase.Ended ended freed))

-- Each set route that is released is cancelled, and its authority is ended.
abbrev pub ReleasedAreEnded : IxlState → Type 0
ReleasedAreEnded ixl = (number : ℕ) (route : RouteState) (clock : ℕ) → slice_get ixl.routes number ≡ Some route → route.released ≡ Some clock → is_set route.phase ≡ true → IsCancelledAndEnded route

-- a release of a route is accepted
abbrev pub ReleaseGiven : ℕ → StepTaken → Type 0
ReleaseGiven number step = (step.input ≡ Commands (commands.Release (record { 0 = number }))) × (step.answer ≡ Accepted)

-- In a turn a route is freed since its release is over.
pub record FreesByRelease (now : ℕ) (table : Table) (number : ℕ) (taken : TurnTaken) : Type 0 where
  pub turn : taken.turn ≡ FreeCancelled number
  pub row : Row
  pub route : RouteState
  pub is : IsRouteOf table taken.before.ixl number row route
  pub set : is_set route.phase ≡ true
  pub over : IsReleaseOver now route

-- Among these steps is one in which the release of a route was accepted, 120000 ms before this clock or earlier, and no step
-- behind it sets the route anew.
pub record IsReleasedBefore (number : ℕ) (steps : List StepTaken) (now : ℕ) : Type 0 where
  pub place : ℕ
  pub step : StepTaken
  pub stands : slice_get steps place ≡ Some step
  pub given : ReleaseGiven number step
  pub over : approach_end step.now ≤ now
  pub same_setting : InNone (SetsAnew number) (drop (suc place) steps)

-- the route wasn't released in the state in which these steps begin
abbrev pub IsUnreleased : ℕ → IxlState → Type 0
IsUnreleased number ixl = (route : RouteState) → slice_get ixl.routes number ≡ Some route → route.released ≡ None

-- ---- closings that are given first

-- the last of some steps
abbrev pub last_of : StepTaken → List StepTaken → StepTaken
last_of first [] = first
last_of first (next ∷ others) = last_of next others

-- the inputs of these steps are the closes of these
abbrev pub AreCloses : List Named → List StepTaken → Type 0
AreCloses names steps = map (λ (step : StepTaken). step.input) steps ≡ map (λ named. Commands (commands.Close named)) names

-- each of them is accepted
abbrev pub AllAccepted : List StepTaken → Type 0
AllAccepted steps = (place : ℕ) (step : StepTaken) → slice_get steps place ≡ Some step → step.answer ≡ Accepted
