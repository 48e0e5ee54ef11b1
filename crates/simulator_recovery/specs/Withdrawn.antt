-- When a cancelled route is free whose approach counted, when one is free that was released, and when authority has ended whatever
-- came before.
use Rattle.std.specs.Prelude.{◌≡◌, ◌≢◌, ℕ, List, [], ◌∷◌}
use Rattle.simulator_spec.specs.layout.declared.ids.RouteId.{RouteId}
use Rattle.simulator_spec.specs.ixl_spec.declared.command.Command.TheVariants as commands
use Rattle.simulator_spec.specs.simulator_event.declared.event.Event.{Event}
use Rattle.simulator_spec.specs.simulator_event.declared.event.Event.TheVariants as event
use Rattle.simulator_spec.specs.simulator_event.declared.reply.Answer.TheVariants as answer
use Rattle.simulator_spec.specs.Flow.{Flowing, round}
use Rattle.simulator_spec.specs.Happens.{answered}
use Rattle.simulator_spec.specs.Tried.{Played, after}
use Rattle.simulator_recovery.specs.Rounds.{all_tried}

-- this event doesn't ask for the route
abbrev pub SetsNot : ℕ → Event → Type 0
SetsNot number (event.Request (commands.Request route)) = route.0 ≢ number
SetsNot number _ = Unit {0}

-- of these events, one after another, none is accepted that asks for the route
abbrev pub NoneSets : ℕ → List Event → Flowing → Type 0
NoneSets number [] flowing = Unit {0}
NoneSets number (one ∷ others) flowing =
    (answered flowing.state.sited.site flowing.state.sited.table one flowing.state.run ≡ answer.Accepted → SetsNot number one)
    × NoneSets number others (record flowing { state = after flowing.state one })

-- so in these good rounds the route isn't set anew
abbrev pub IsNotSetAnew : ℕ → List (List Event) → Flowing → Type 0
IsNotSetAnew number [] flowing = Unit {0}
IsNotSetAnew number (between ∷ later) flowing = NoneSets number between (round flowing) × IsNotSetAnew number later (all_tried between (round flowing))

-- so many good rounds after its authority has ended a cancelled route is free, unless a train came: 120,000 ms, its approach time; and so
-- many after it is released, whether a train came or not
abbrev pub approach_time_rounds : ℕ
approach_time_rounds = 12000

-- and so many after its cancel: 120,020 ms, since its authority has ended within 20 ms
abbrev pub approach_rounds : ℕ
approach_rounds = 12002

-- so many good rounds after a moment the authority of a route that was withdrawn then has ended, whatever came before: 320 ms, since its
-- signal says something in each 300 ms, and so confirms stop
abbrev pub told_rounds : ℕ
told_rounds = 32

-- the release of a route is accepted
abbrev pub AcceptsRelease : RouteId → Played → Type 0
AcceptsRelease route world = answered world.sited.site world.sited.table (event.Request (commands.Release route)) world.run ≡ answer.Accepted

-- so a flow is once the release was tried
abbrev pub behind_release : RouteId → Flowing → Flowing
behind_release route flowing = all_tried (event.Request (commands.Release route) ∷ []) flowing
