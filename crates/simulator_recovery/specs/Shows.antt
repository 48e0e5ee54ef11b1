-- The last aspect that a signal was given, and the lamp that shows it.
use Rattle.std.specs.Prelude.{◌≡◌, ℕ, List, [], ◌∷◌, Some, slice_get}
use Rattle.simulator_spec.specs.sci_telegram.declared.message.Aspect.{Aspect}
use Rattle.simulator_spec.specs.ixl_spec.Due.{At, IsRouteOf}
use Rattle.simulator_spec.specs.ixl_spec.State.{IxlState, KnownSignalState, RouteState}
use Rattle.simulator_spec.specs.ixl_spec.Table.{Row, Table}
use Rattle.simulator_spec.specs.simulator_event.declared.event.Event.{Event}
use Rattle.simulator_spec.specs.Flow.{Flowing, round}
use Rattle.simulator_spec.specs.Seen.{shown_by}
use Rattle.simulator_spec.specs.State.{WorldState}
use Rattle.simulator_recovery.specs.NothingDue.{Proceeds}
use Rattle.simulator_recovery.specs.Rounds.{all_tried}

-- At one moment and at a later one this is the last aspect that the interlocking has given to a signal in the present connection, in
-- the same item: nothing was given to the signal since.
abbrev pub IsGivenLast : Aspect → (old new : KnownSignalState) → Type 0
IsGivenLast aspect old new = (old.aspect ≡ Some aspect) × (new.aspect ≡ Some aspect) × (new.number ≡ old.number)

-- so it is with the signal at a place
abbrev pub StaysGiven : ℕ → Aspect → (old new : IxlState) → Type 0
StaysGiven place aspect old new = (before after : KnownSignalState) → slice_get old.known_signals place ≡ Some before → slice_get new.known_signals place ≡ Some after → IsGivenLast aspect before after

-- A lamp shows this aspect.
abbrev pub Shows : ℕ → Aspect → WorldState → Type 0
Shows signal aspect world = At world.signals signal (λ controller. shown_by controller ≡ aspect)

-- The route of this number and row of the table proceeds.
abbrev pub RouteProceeds : Table → IxlState → ℕ → Row → Type 0
RouteProceeds table ixl number row = (route : RouteState) × IsRouteOf table ixl number row route × Proceeds route

abbrev pub ProceedsAt : ℕ → Row → Flowing → Type 0
ProceedsAt number row flowing = RouteProceeds flowing.state.sited.table flowing.state.run.interlocking.ixl number row

-- so many good rounds after the moment at which a route proceeds its signal shows its aspect: 10 ms
abbrev pub aspect_rounds : ℕ
aspect_rounds = 1

-- ---- round by round

-- The route proceeds before each of these good rounds, and after it: it is neither cancelled nor withdrawn.
abbrev pub ProceedsThrough : ℕ → Row → List (List Event) → Flowing → Type 0
ProceedsThrough number row [] flowing = Unit {0}
ProceedsThrough number row (between ∷ later) flowing =
    ProceedsAt number row flowing × ProceedsAt number row (round flowing) × ProceedsThrough number row later (all_tried between (round flowing))

-- The lamp shows this aspect after each of these good rounds, with the requests and occupancies that come after it.
abbrev pub ShowsThrough : ℕ → Aspect → List (List Event) → Flowing → Type 0
ShowsThrough signal aspect [] flowing = Unit {0}
ShowsThrough signal aspect (between ∷ later) flowing =
    Shows signal aspect (all_tried between (round flowing)).state.run × ShowsThrough signal aspect later (all_tried between (round flowing))
