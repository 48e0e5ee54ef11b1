-- What was given on a link of late, and from when on no move is unanswered.
use Rattle.std.specs.Prelude.{◌≡◌, ℕ, ◌+◌, ◌<◌, true}
use Rattle.std.specs.List.{Contains}
use Rattle.simulator_spec.specs.ixl_spec.Due.{IsRouteOf}
use Rattle.simulator_spec.specs.ixl_spec.Rules.{is_waiting}
use Rattle.simulator_spec.specs.ixl_spec.State.{IxlState, RouteState}
use Rattle.simulator_spec.specs.ixl_spec.Table.{Need, Row, Table}
use Rattle.simulator_spec.specs.simulator_event.declared.event.Event.{Event}
use Rattle.simulator_spec.specs.simulator_event.declared.event.Event.TheVariants as event
use Rattle.simulator_spec.specs.State.{WorldState}
use Rattle.simulator_recovery.specs.LinkRounds.{IsUpOn}
use Rattle.simulator_recovery.specs.Moves.{move_rounds}
use Rattle.simulator_recovery.specs.Ready.{ready_rounds}

-- A link is up at two moments, and by the later one the interlocking has given more there than by the earlier one.
pub record HasGivenSince (link : ℕ) (old new : WorldState) : Type 0 where
  pub before : IsUpOn link old
  pub behind : IsUpOn link new
  pub more : before.client.given < behind.client.given

-- from this good round on no move is out that was given by the first round of ready links: 16,170 ms after the good rounds began
abbrev pub answered_rounds : ℕ
answered_rounds = ready_rounds + move_rounds

-- No route waits that requires this point, but one that is cancelled.
abbrev pub NoneWaitsFor : Table → IxlState → ℕ → Type 0
NoneWaitsFor table ixl point = (number : ℕ) (row : Row) (route : RouteState) (need : Need) → IsRouteOf table ixl number row route → Contains row.needs need → need.point ≡ point
    → is_waiting route.phase ≡ true → route.cancelled ≡ true

-- a section is occupied, or left
abbrev pub IsOccupancy : Event → Type 0
IsOccupancy (event.Occupy section occupancy) = Unit {0}
IsOccupancy _ = ⊥
