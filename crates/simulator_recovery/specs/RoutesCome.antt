-- How a set route comes to its aspect.
use Rattle.std.specs.Prelude.{◌≡◌, ◌⊎◌, ℕ, true, List, [], ◌∷◌, ◌++◌, map, Some, slice_get}
use Rattle.std.specs.List.{Contains}
use Rattle.simulator_spec.specs.layout.Entries.{Site}
use Rattle.simulator_spec.specs.layout.declared.ids.RouteId.{RouteId}
use Rattle.simulator_spec.specs.rasta_core.Clock.{settled}
use Rattle.simulator_spec.specs.rasta_core.Each.{Each}
use Rattle.simulator_spec.specs.rasta_core.Ends.{reading_of}
use Rattle.simulator_spec.specs.rasta_core.State.{is_up}
use Rattle.simulator_spec.specs.ixl_client.Client.{ClientState}
use Rattle.simulator_spec.specs.ixl_spec.Due.{AllClear, AllKnown, At, Known}
use Rattle.simulator_spec.specs.ixl_spec.State.{IxlState}
use Rattle.simulator_spec.specs.ixl_spec.Table.{Need, Row}
use Rattle.simulator_spec.specs.ixl_spec.declared.command.Command.TheVariants as commands
use Rattle.simulator_spec.specs.simulator_event.declared.event.Event.{Event}
use Rattle.simulator_spec.specs.simulator_event.declared.event.Event.TheVariants as event
use Rattle.simulator_spec.specs.simulator_event.declared.reply.Answer.TheVariants as answer
use Rattle.simulator_spec.specs.Flow.{Flowing, round, round_of_time}
use Rattle.simulator_spec.specs.Happens.{answered}
use Rattle.simulator_spec.specs.Nodes.{point_link}
use Rattle.simulator_spec.specs.State.{WorldState}
use Rattle.simulator_spec.specs.Tried.{Played, after}
use Rattle.simulator_link_laws.specs.Whole.{client_states}
use Rattle.simulator_recovery.specs.LinkRounds.{StaysBelowLimit, behind_time, event_of}
use Rattle.simulator_recovery.specs.Rounds.{all_tried, good_rounds}
use Rattle.simulator_recovery.specs.NothingDue.{HasAspect, IsUpAtClock, KeepsSetting, Waits}

-- A route waits for its aspect; or it has it, and each point that it requires is known at its side.
abbrev pub IsOnCourse : IxlState → ℕ → Row → Type 0
IsOnCourse ixl number row = At ixl.routes number Waits ⊎ (At ixl.routes number HasAspect × AllKnown ixl row.needs)

-- ---- links

-- The interlocking's link to a signal is up by its clock.
abbrev pub IsSignalUp : ℕ → WorldState → Type 0
IsSignalUp place world = At world.interlocking.ixl.known_signals place (λ known. is_up (settled (reading_of world.interlocking.clock) known.client.link).phase ≡ true)

-- So are its links to the signal of a route and to the points that this requires.
pub record AreLinksUp (row : Row) (world : WorldState) : Type 0 where
  pub signal : IsSignalUp row.entry world
  pub points : (need : Need) → Contains row.needs need → IsUpAtClock world need.point

-- The interlocking's client of a link is up by its clock.
pub record IsClientUp (link : ℕ) (world : WorldState) : Type 0 where
  pub client : ClientState
  pub there : slice_get (client_states world.interlocking.ixl) link ≡ Some client
  pub up : is_up (settled (reading_of world.interlocking.clock) client.link).phase ≡ true

-- ---- in good rounds

-- so it is after each of these events, tried one after another
abbrev pub EachBehind : (Played → Type 0) → List Event → Played → Type 0
EachBehind holds [] world = Unit {0}
EachBehind holds (first ∷ others) world = holds (after world first) × EachBehind holds others (after world first)

-- the events of a good round, and those after it
abbrev pub events_of_round : List Event → Flowing → List Event
events_of_round between flowing = round_of_time flowing.state.sited.site ∷ (map event_of (behind_time flowing) ++ between)

-- so it is after each event of these good rounds, and of those after them
abbrev pub Throughout : (Played → Type 0) → List (List Event) → Flowing → Type 0
Throughout holds [] flowing = Unit {0}
Throughout holds (between ∷ later) flowing = EachBehind holds (events_of_round between flowing) flowing.state × Throughout holds later (all_tried between (round flowing))

-- The sections of a route are known to be clear.
abbrev pub HasClearSections : Row → Played → Type 0
HasClearSections row world = AllClear world.sited.table world.run.interlocking.ixl row.sections

-- Neither end of a link of the route comes to the limit of PDUs in a connection in these rounds: of that to its signal, and of those to its points.
pub record AreBelowLimit (site : Site) (row : Row) (rounds : List (List Event)) (flowing : Flowing) : Type 0 where
  pub signal : StaysBelowLimit site row.entry rounds flowing
  pub points : (need : Need) → Contains row.needs need → StaysBelowLimit site (point_link site need.point) rounds flowing

-- A route is set at a moment, and stays so through these rounds: it is on its course at first, its sections are known to be clear then and after
-- each event, and none of the events between the rounds cancels it.
pub record StaysSet (number : ℕ) (row : Row) (rounds : List (List Event)) (start : Flowing) : Type 0 where
  pub course : IsOnCourse start.state.run.interlocking.ixl number row
  pub clear : HasClearSections row start.state
  pub stays_clear : Throughout (HasClearSections row) rounds start
  pub kept : Each (Each (KeepsSetting start.state.sited.site number)) rounds

-- A point that a route requires is known at its side at the end of one of these rounds, or before the first.
pub record IsKnownWithin (need : Need) (rounds : List (List Event)) (start : Flowing) : Type 0 where
  pub front : List (List Event)
  pub rest : List (List Event)
  pub parts : rounds ≡ front ++ rest
  pub known : Known (good_rounds front start).state.run.interlocking.ixl need.point need.side

-- So is each of them.
abbrev pub AreKnownWithin : Row → List (List Event) → Flowing → Type 0
AreKnownWithin row rounds start = (need : Need) → Contains row.needs need → IsKnownWithin need rounds start

-- ---- requests

-- requests and occupancies, and after them the request of this route
abbrev pub and_request : RouteId → List Event → List Event
and_request route before = before ++ event.Request (commands.Request route) ∷ []

-- so a station is as the request comes, after these rounds and what came since
abbrev pub as_request_comes : List (List Event) → List Event → Flowing → Flowing
as_request_comes rounds before flowing = all_tried before (round (good_rounds rounds flowing))

-- the request of a route is accepted
abbrev pub AcceptsRequest : RouteId → Played → Type 0
AcceptsRequest route world = answered world.sited.site world.sited.table (event.Request (commands.Request route)) world.run ≡ answer.Accepted

-- After a request the sections of its route stay clear, and none of the events between the rounds cancels the route.
pub record StaysClear (number : ℕ) (row : Row) (rounds : List (List Event)) (start : Flowing) : Type 0 where
  pub stays_clear : Throughout (HasClearSections row) rounds start
  pub kept : Each (Each (KeepsSetting start.state.sited.site number)) rounds
