-- What a signal was given, and what its lamp shows.
use Rattle.std.specs.Prelude.{◌≡◌, ◌⊎◌, ℕ, false, true, List, [], ◌∷◌, ◌++◌, Some, None, slice_get}
use Rattle.simulator_spec.specs.rasta_core.State.{confirmed_items, is_up}
use Rattle.simulator_spec.specs.sci_telegram.declared.message.Aspect.TheVariants.{Stop}
use Rattle.simulator_spec.specs.layout.declared.ids.RouteId.{RouteId}
use Rattle.simulator_spec.specs.ixl_spec.Due.{At, IsRouteOf}
use Rattle.simulator_spec.specs.ixl_spec.Rules.{is_proceeding, is_waiting}
use Rattle.simulator_spec.specs.ixl_spec.State.{IxlState, KnownSignalState, RouteState}
use Rattle.simulator_spec.specs.ixl_spec.Table.{Row, Table}
use Rattle.simulator_spec.specs.ixl_spec.View.{has_taken_stop}
use Rattle.simulator_spec.specs.ixl_spec.declared.command.Command.TheVariants as commands
use Rattle.simulator_spec.specs.ixl_spec.declared.phase.Phase.TheVariants as phase
use Rattle.simulator_spec.specs.simulator_event.declared.event.Event.{Event}
use Rattle.simulator_spec.specs.simulator_event.declared.event.Event.TheVariants as event
use Rattle.simulator_spec.specs.simulator_event.declared.reply.Answer.TheVariants as answer
use Rattle.simulator_spec.specs.Flow.{Flowing, round}
use Rattle.simulator_spec.specs.Happens.{answered}
use Rattle.simulator_spec.specs.Seen.{shown_by}
use Rattle.simulator_spec.specs.State.{WorldState}
use Rattle.simulator_spec.specs.Tried.{Played}
use Rattle.simulator_recovery.specs.Rounds.{all_tried, good_rounds}

-- The last aspect that the interlocking has given to a signal in the present connection is stop, or it has given none there.
abbrev pub IsStopLast : KnownSignalState → Type 0
IsStopLast known = (known.aspect ≡ None) ⊎ (known.aspect ≡ Some Stop)

-- so it is with the signal at a place
abbrev pub HasStopLast : ℕ → IxlState → Type 0
HasStopLast place ixl = (known : KnownSignalState) → slice_get ixl.known_signals place ≡ Some known → IsStopLast known

-- The link of a signal is up, and the controller is known to have taken stop as the last aspect given, or was given none.
abbrev pub IsStopTaken : KnownSignalState → Type 0
IsStopTaken known = (is_up known.client.link.phase ≡ true) × (has_taken_stop known.aspect known.number (confirmed_items known.client.link) ≡ true)

-- From one moment to a later one a signal was given no aspect: the last one is the same, with the number of its item, or none was given
-- in the present connection.
abbrev pub IsGivenNoMore : (old new : KnownSignalState) → Type 0
IsGivenNoMore old new = (new.aspect ≡ None) ⊎ ((new.aspect ≡ old.aspect) × (new.number ≡ old.number))

abbrev pub GivesNoMore : ℕ → (old new : IxlState) → Type 0
GivesNoMore place old new = (before after : KnownSignalState) → slice_get old.known_signals place ≡ Some before → slice_get new.known_signals place ≡ Some after → IsGivenNoMore before after

-- No route that begins at this signal has its aspect, and none waits for it but one that is cancelled.
abbrev pub NoneProceeds : Table → IxlState → ℕ → Type 0
NoneProceeds table ixl signal = (number : ℕ) (row : Row) (route : RouteState) → IsRouteOf table ixl number row route → row.entry ≡ signal
    → (is_waiting route.phase ≡ true → route.cancelled ≡ true) × (is_proceeding route.phase ≡ false)

-- A route that begins at this signal is withdrawn: its aspect was given, and is to fall.
pub record IsWithdrawnFrom (table : Table) (ixl : IxlState) (signal : ℕ) : Type 0 where
  pub number : ℕ
  pub row : Row
  pub route : RouteState
  pub is_route : IsRouteOf table ixl number row route
  pub entry : row.entry ≡ signal
  pub withdrawn : route.phase ≡ phase.Withdrawn

-- A lamp is at stop.
abbrev pub IsAtStop : ℕ → WorldState → Type 0
IsAtStop signal world = At world.signals signal (λ controller. shown_by controller ≡ Stop)

-- so many good rounds after the moment at which no route proceeds from a signal its lamp is at stop: 10 ms
abbrev pub stop_rounds : ℕ
stop_rounds = 1

-- requests and occupancies, and after them a cancel of this route
abbrev pub and_cancel : RouteId → List Event → List Event
and_cancel route before = before ++ event.Request (commands.Cancel route) ∷ []

-- so a station is as the cancel comes, after these rounds and what came since
abbrev pub as_cancel_comes : List (List Event) → List Event → Flowing → Flowing
as_cancel_comes rounds before flowing = all_tried before (round (good_rounds rounds flowing))

-- the cancel of a route is accepted
abbrev pub AcceptsCancel : RouteId → Played → Type 0
AcceptsCancel route world = answered world.sited.site world.sited.table (event.Request (commands.Cancel route)) world.run ≡ answer.Accepted
