-- How a set route goes on in an interlocking, event by event.
use Rattle.std.specs.Prelude.{◌≡◌, ◌≢◌, ℕ, true, false, List, [], ◌∷◌, map, Option, Some, None}
use Rattle.std.specs.List.{Contains}
use Rattle.simulator_spec.specs.layout.Entries.{Site}
use Rattle.simulator_spec.specs.rasta_core.Clock.{settled}
use Rattle.simulator_spec.specs.rasta_core.Ends.{reading_of}
use Rattle.simulator_spec.specs.rasta_core.State.{is_up}
use Rattle.simulator_spec.specs.sci_telegram.declared.message.Side.{Side}
use Rattle.simulator_spec.specs.ixl_client.Client.{PeerState, is_outside, is_ready}
use Rattle.simulator_spec.specs.ixl_client.ClientSoFar.{Sends}
use Rattle.simulator_spec.specs.ixl_client.declared.command.Command.TheVariants.{Move}
use Rattle.simulator_spec.specs.ixl_spec.Due.{AllClear, AllKnown, At, IsSignalReady}
use Rattle.simulator_spec.specs.ixl_spec.State.{IxlState, RouteState}
use Rattle.simulator_spec.specs.ixl_spec.Step.{Commands, Datagram, Input, Tick, all_clocked, given}
use Rattle.simulator_spec.specs.ixl_spec.StepSoFar.{Point, begun_with, empty_outbox}
use Rattle.simulator_spec.specs.ixl_spec.Table.{Need, Row, Table}
use Rattle.simulator_spec.specs.ixl_spec.declared.command.Command.{Command}
use Rattle.simulator_spec.specs.ixl_spec.declared.command.Command.TheVariants as commands
use Rattle.simulator_spec.specs.ixl_spec.declared.phase.Phase.TheVariants as phase
use Rattle.simulator_spec.specs.simulator_event.declared.event.Event.{Event}
use Rattle.simulator_spec.specs.simulator_event.declared.event.Event.TheVariants as event
use Rattle.simulator_spec.specs.declared.round.RoundEvent.{RoundEvent}
use Rattle.simulator_spec.specs.Flow.{Flowing, due, round}
use Rattle.simulator_spec.specs.Happens.{happens}
use Rattle.simulator_spec.specs.Interlocking.{interlocking_step}
use Rattle.simulator_spec.specs.Nodes.{Interlocking, Node, key_of, node_at}
use Rattle.simulator_spec.specs.State.{WorldState}
use Rattle.simulator_spec.specs.Tried.{Played, after, refusal_of}
use Rattle.simulator_recovery.specs.ClientSaid.{commanded}
use Rattle.simulator_recovery.specs.Rounds.{all_tried}

-- A route waits for its aspect, and isn't cancelled.
abbrev pub Waits : RouteState → Type 0
Waits route = (route.phase ≡ phase.Waiting) × (route.cancelled ≡ false)

-- A route proceeds: its aspect was given, and the route isn't withdrawn.
abbrev pub Proceeds : RouteState → Type 0
Proceeds route = route.phase ≡ phase.Proceeding

-- A route has its aspect: it proceeds, and isn't cancelled.
abbrev pub HasAspect : RouteState → Type 0
HasAspect route = Proceeds route × (route.cancelled ≡ false)

-- ---- events that leave a route its setting

-- this command doesn't cancel the route
abbrev pub CancelsNot : ℕ → Command → Type 0
CancelsNot number (commands.Cancel route) = route.0 ≢ number
CancelsNot number _ = Unit {0}

-- An event doesn't cancel the route, and doesn't make the interlocking anew.
abbrev pub KeepsSetting : Site → ℕ → Event → Type 0
KeepsSetting site number (event.Request command) = CancelsNot number command
KeepsSetting site number (event.Restart node clock first) = node_at site node.0 ≢ Some Interlocking
KeepsSetting site number _ = Unit {0}

-- ---- what an aspect rests on

-- Each point that the route requires is known at its side, its sections are clear, and its signal's link is ready.
abbrev pub IsUpheld : Table → IxlState → Row → Type 0
IsUpheld table ixl row = AllKnown ixl row.needs × AllClear table ixl row.sections × IsSignalReady ixl row.entry

-- the input that comes to the interlocking where it is this node
abbrev pub input_at : Option Node → Input → Option Input
input_at (Some Interlocking) input = Some input
input_at _ input = None

-- and the one that an event brings to it, where the event brings one
abbrev pub input_of : Site → Event → Option Input
input_of site (event.Request command) = Some (Commands command)
input_of site (event.Tick node) = input_at (node_at site node.0) Tick
input_of site (event.Deliver node bytes) = input_at (node_at site node.0) (Datagram bytes)
input_of site _ = None

-- what the interlocking knows after the clock and the input of a step, before its rules
abbrev pub known_in_step : Site → Table → Input → WorldState → IxlState
known_in_step site table input world =
    let now = reading_of world.interlocking.clock
    in (given now table (key_of site) input (begun_with (all_clocked now world.interlocking.ixl) empty_outbox)).ixl

-- In the step that an event brings to the interlocking, if it brings one, the aspect of the route is upheld.
abbrev pub UpholdsAspect : Site → Table → Row → Event → WorldState → Type 0
UpholdsAspect site table row event world = (input : Input) → input_of site event ≡ Some input → IsUpheld table (known_in_step site table input world) row

-- ---- the links that a route needs

-- the link of a point is ready
abbrev pub IsPointReady : IxlState → ℕ → Type 0
IsPointReady ixl point = At ixl.known_points point (λ known. is_ready known.client.stage ≡ true)

-- so is that of the detector which reports a section
abbrev pub IsDetectorReady : Table → IxlState → ℕ → Type 0
IsDetectorReady table ixl section = At table.reporters section (λ reporter. At ixl.detectors reporter.0 (λ detector. is_ready detector.client.stage ≡ true))

-- The links that a route needs are ready: those of its points, of the detectors of its sections, and of its signal.
pub record HasLinksReady (table : Table) (ixl : IxlState) (row : Row) : Type 0 where
  pub points : (need : Need) → Contains row.needs need → IsPointReady ixl need.point
  pub detectors : (section : ℕ) → Contains row.sections section → IsDetectorReady table ixl section
  pub signal : IsSignalReady ixl row.entry

-- ---- a point's link over an event

-- a point's link is up at the clock of the interlocking
abbrev pub IsUpAtClock : WorldState → ℕ → Type 0
IsUpAtClock world point = At world.interlocking.ixl.known_points point (λ known. is_up (settled (reading_of world.interlocking.clock) known.client.link).phase ≡ true)

-- it is in a connection
abbrev pub IsInside : IxlState → ℕ → Type 0
IsInside ixl point = At ixl.known_points point (λ known. is_outside known.client.stage ≡ false)

-- ---- what a route that proceeds needs over an event

-- The links of the points that a route requires are ready before the event, and up at the interlocking's clock.
pub record HasPointsUp (world : WorldState) (row : Row) : Type 0 where
  pub ready : (need : Need) → Contains row.needs need → IsPointReady world.interlocking.ixl need.point
  pub up : (need : Need) → Contains row.needs need → IsUpAtClock world need.point

-- Its points are still in their connections, its sections are clear, and its signal's link is ready.
pub record IsClearFor (table : Table) (ixl : IxlState) (row : Row) : Type 0 where
  pub points : (need : Need) → Contains row.needs need → IsInside ixl need.point
  pub sections : AllClear table ixl row.sections
  pub signal : IsSignalReady ixl row.entry

-- In a step the interlocking gives a point a move to this side: the telegram of the move is given to the point's link.
abbrev pub GivesMoveTo : Site → Table → Input → WorldState → ℕ → Side → PeerState → Type 0
GivesMoveTo site table input world point side peer = Contains (interlocking_step site table input world.interlocking).calls (Point point, Sends (commanded peer (Move side)))

-- ---- events, one after another

-- Each of these events finds this so as they are tried one after another, in the world in which it happens, if it can happen there.
abbrev pub EachFinds : (Event → WorldState → Type 0) → List Event → Played → Type 0
EachFinds finds [] world = Unit {0}
EachFinds finds (first ∷ others) world = (refusal_of first world ≡ None → finds first world.run) × EachFinds finds others (after world first)

-- So do the events of these good rounds, and those between them.
abbrev pub RoundsFind : (Event → WorldState → Type 0) → List (List Event) → Flowing → Type 0
RoundsFind finds [] flowing = Unit {0}
RoundsFind finds (between ∷ later) flowing =
    EachFinds finds (map (λ (one : RoundEvent). one.event) (due flowing)) flowing.state × EachFinds finds between (round flowing).state
    × RoundsFind finds later (all_tried between (round flowing))

-- Where a route proceeds, the links of its points are ready and up before an event; and after it they are still in their connections,
-- its sections are clear, and its signal's link is ready.
abbrev pub FindsUpheld : Site → Table → ℕ → Row → Event → WorldState → Type 0
FindsUpheld site table number row event world = At world.interlocking.ixl.routes number HasAspect → HasPointsUp world row × IsClearFor table (happens site table event world).interlocking.ixl row
