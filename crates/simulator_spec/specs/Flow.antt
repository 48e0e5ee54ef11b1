-- A flow of time, in rounds: 10 ms at equal rates, the delivery of each datagram that was sent before and not yet tried, a
-- tick of each node, and that each point comes to lie that was found driven for long enough.
use Rattle.std.specs.Prelude.{◌≡◌, ℕ, zero, suc, ◌-◌, ◌<◌, nat_lt, if◌then◌else◌, Bool, true, false, List, [], ◌∷◌, ◌++◌, length, replicate, take, Option, Some, None, Result, Ok, Err}
use Rattle.ixl_spec.specs.layout.Entries.{Site}
use Rattle.ixl_spec.specs.layout.declared.ids.PointId.{PointId}
use Rattle.ixl_spec.specs.sci_telegram.declared.message.Position.{Position}
use Rattle.ixl_spec.specs.sci_telegram.declared.message.Position.TheVariants as position
use Rattle.ixl_spec.specs.sci_telegram.declared.message.Side.{Side}
use Rattle.ixl_spec.specs.sci_telegram.declared.message.Side.TheVariants.{Right, Left}
use Rattle.ixl_spec.specs.Table.{is_same_side}
use Rattle.simulator_event.specs.declared.event.Event.{Event}
use Rattle.simulator_event.specs.declared.event.Event.TheVariants as event
use Rattle.simulator_event.specs.layout.declared.ids.NodeId.{NodeId}
use Rattle.simulator_event.specs.refused.Refused.{Refused}
use Rattle.simulator_event.specs.refused.Refused.TheVariants.{OutOfMemory}
use Rattle.simulator_event.specs.declared.reply.Answer.{Answer}
use Rattle.simulator_event.specs.declared.reply.Answer.TheVariants.{Done}
use Rattle.simulator_spec.specs.Nodes.{nodes}
use Rattle.simulator_spec.specs.Tried.{Played, after, arrival_in, driven}
use Rattle.simulator_spec.specs.declared.round.FoundDriven.{FoundDriven}
use Rattle.simulator_spec.specs.declared.round.RoundEvent.{RoundEvent}

-- ---- for how long points were found driven

-- where a point comes to lie that is driven to this side
abbrev pub position_of : Side → Position
position_of Right = position.Right
position_of Left = position.Left

-- A drive that is found again counts one round more, up to 50; one to the other side begins anew.
abbrev pub driven_again : Side → FoundDriven → FoundDriven
driven_again side drive =
    if is_same_side drive.side side then record { side = side; rounds = if nat_lt drive.rounds 50 then suc drive.rounds else drive.rounds }
    else record { side = side; rounds = 1 }

-- what is known of a point's drive at the end of a round in which it is found so
abbrev pub next_drive : Option Side → Option FoundDriven → Option FoundDriven
next_drive None before = None
next_drive (Some side) None = Some (record { side = side; rounds = 1 })
next_drive (Some side) (Some drive) = Some (driven_again side drive)

-- the same of all points from a place on
unfoldable pub next_drives : (PointId → Option Side) → ℕ → List (Option FoundDriven) → List (Option FoundDriven)
next_drives found place [] = []
next_drives found place (drive ∷ drives) = next_drive (found (record { 0 = place })) drive ∷ next_drives found (suc place) drives

-- ---- the events of a round, in their order

-- 10 ms at equal rates
abbrev pub round_of_time : Site → Event
round_of_time site = event.Time 10000 (replicate (nodes site) 10000)

-- the delivery of the datagram at a place to the node that it is for, unless it is lost
abbrev pub delivery : ℕ → Option (NodeId × List ℕ) → List RoundEvent
delivery place None = []
delivery place (Some arrival) = record { event = event.Deliver arrival.0 arrival.1; passed = suc place } ∷ []

-- the deliveries of so many datagrams, in the order of sending, from this place on
unfoldable pub deliveries : (ℕ → Option (NodeId × List ℕ)) → ℕ → ℕ → List RoundEvent
deliveries arrival place zero = []
deliveries arrival place (suc more) = delivery place (arrival place) ++ deliveries arrival (suc place) more

-- a tick of each of so many nodes, from this one on
unfoldable pub ticks : ℕ → ℕ → ℕ → List RoundEvent
ticks passed node zero = []
ticks passed node (suc more) = record { event = event.Tick (record { 0 = node }); passed = passed } ∷ ticks passed (suc node) more

-- a point that was found driven at the ends of 50 rounds comes to lie at the side to which it is driven
abbrev pub reach : ℕ → ℕ → Option FoundDriven → List RoundEvent
reach passed point None = []
reach passed point (Some drive) =
    if nat_lt drive.rounds 50 then []
    else record { event = event.Reach (record { 0 = point }) (position_of drive.side); passed = passed } ∷ []

-- the same of all points from this one on
unfoldable pub reaches : ℕ → ℕ → List (Option FoundDriven) → List RoundEvent
reaches passed point [] = []
reaches passed point (drive ∷ drives) = reach passed point drive ++ reaches passed (suc point) drives

-- ---- rounds

-- a station, how many of the datagrams that were sent a flow has gone past, and for how long each point was found driven
pub record Flowing : Type 0 where
  pub state : Played
  pub passed : ℕ
  pub drives : List (Option FoundDriven)

-- an event of a round happens, or is passed over
abbrev pub did : RoundEvent → Flowing → Flowing
did one flowing = record flowing { state = after flowing.state one.event; passed = one.passed }

-- so do events, one after the other
unfoldable pub all_did : List RoundEvent → Flowing → Flowing
all_did [] flowing = flowing
all_did (one ∷ more) flowing = all_did more (did one flowing)

-- The events of a round that begins so.
abbrev pub due : Flowing → List RoundEvent
due flowing =
    let site = flowing.state.sited.site
    in let before = length flowing.state.run.sent
    in record { event = round_of_time site; passed = flowing.passed }
    ∷ (deliveries (arrival_in flowing.state) flowing.passed (before - flowing.passed)
    ++ (ticks before 0 (nodes site) ++ reaches before 0 flowing.drives))

-- it is noted at the end of a round which points are driven
abbrev pub rested : Flowing → Flowing
rested flowing = record flowing { drives = next_drives (driven flowing.state) 0 flowing.drives }

abbrev pub round : Flowing → Flowing
round flowing = rested (all_did (due flowing) flowing)

-- rounds, one after the other
unfoldable pub rounds : ℕ → Flowing → Flowing
rounds zero flowing = flowing
rounds (suc more) flowing = round (rounds more flowing)

-- a round stops after so many of its events
abbrev pub StopsIn : Flowing → Flowing → Type 0
StopsIn old new = (count : ℕ) × (new ≡ all_did (take count (due old)) old)

-- A flow of so many rounds, with its answer. Where memory is lacking it stops in a round.
pub data Flows (count : ℕ) (old : Flowing) : Result Answer Refused → Flowing → Type 0 where
  goes : Flows count old (Ok Done) (rounds count old)
  stops : (done : ℕ) {new : Flowing} → done < count → StopsIn (rounds done old) new → Flows count old (Err OutOfMemory) new
