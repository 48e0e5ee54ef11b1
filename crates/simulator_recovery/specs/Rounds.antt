-- Good rounds of a station, with requests and occupancies between them.
use Rattle.std.specs.Prelude.{◌≡◌, ℕ, suc, ◌+◌, ◌-◌, ◌*◌, ◌≤◌, false, List, [], ◌∷◌, ◌++◌, length, map, None}
use Rattle.simulator_spec.specs.rasta_core.Each.{Each}
use Rattle.simulator_spec.specs.rasta_core.Links.{OnLink}
use Rattle.simulator_spec.specs.simulator_event.declared.event.Event.{Event}
use Rattle.simulator_spec.specs.simulator_event.declared.event.Event.TheVariants as event
use Rattle.simulator_spec.specs.declared.round.RoundEvent.{RoundEvent}
use Rattle.simulator_spec.specs.Flow.{Flowing, deliveries, round, round_of_time}
use Rattle.simulator_spec.specs.Refusals.{clock_limit}
use Rattle.simulator_spec.specs.State.{ClockedControllerState, WorldState}
use Rattle.simulator_spec.specs.Tried.{Played, after, arrival_in, receiver, refusal_of}
use Rattle.simulator_recovery.specs.Flows.{IsFlow}

-- what may come between rounds: requests and occupancies
abbrev pub IsWork : Event → Type 0
IsWork (event.Request command) = Unit {0}
IsWork (event.Occupy section occupancy) = Unit {0}
IsWork _ = ⊥

-- events are tried one after another, and no round with them
abbrev pub all_tried : List Event → Flowing → Flowing
all_tried [] flowing = flowing
all_tried (first ∷ others) flowing = all_tried others (record flowing { state = after flowing.state first })

-- good rounds, one for each list; its events are tried after it
abbrev pub good_rounds : List (List Event) → Flowing → Flowing
good_rounds [] flowing = flowing
good_rounds (between ∷ later) flowing = good_rounds later (all_tried between (round flowing))

-- true time and the clocks of all nodes, in microseconds
abbrev pub clock_of : {Object : Type 0} → ClockedControllerState Object → ℕ
clock_of controller = controller.clock

abbrev pub clocks_of : WorldState → List ℕ
clocks_of world = world.time ∷ world.interlocking.clock ∷ (map clock_of world.signals ++ (map clock_of world.points ++ map clock_of world.detectors))

-- each of them so many rounds later: 10 ms each
abbrev pub rounds_later : ℕ → List ℕ → List ℕ
rounds_later n clocks = map (λ clock. clock + 10000 * n) clocks

-- each of them can go on for so many rounds
abbrev pub HasTime : ℕ → WorldState → Type 0
HasTime n world = Each (λ clock. clock + 10000 * n ≤ clock_limit) (clocks_of world)

-- A flow of a station goes on in good rounds: one with these requests and occupancies after it, and after each later one its own. True
-- time and the clocks can go on for so long.
pub record InGoodRounds (between : List Event) (later : List (List Event)) (flowing : Flowing) : Type 0 where
  pub flow : IsFlow flowing
  pub work : Each IsWork between
  pub works : Each (Each IsWork) later
  pub time : HasTime (suc (length later)) flowing.state.run

-- from this good round on an interlocking takes requests, however late it was made anew: 6000 ms
abbrev pub hold_rounds : ℕ
hold_rounds = 600

-- a datagram was sent at this true time, and isn't lost
abbrev pub IsFresh : ℕ → OnLink → Type 0
IsFresh time one = (one.datagram.at ≡ time) × (one.datagram.is_lost ≡ false)

-- A flow has gone past all datagrams that were sent before, and each later one was sent at the true time of this moment, and
-- isn't lost.
pub record LeavesFresh (old new : Flowing) : Type 0 where
  pub passed : new.passed ≡ length old.state.run.sent
  pub more : List OnLink
  pub sent : new.state.run.sent ≡ old.state.run.sent ++ more
  pub fresh : Each (IsFresh new.state.run.time) more

-- the deliveries of these datagrams, each to the node at the other end of its link, where the first stands at this place
abbrev pub arrivals : ℕ → List OnLink → List RoundEvent
arrivals place [] = []
arrivals place (first ∷ others) =
    record { event = event.Deliver (receiver first.datagram.sender first.link) first.datagram.bytes; passed = suc place } ∷ arrivals (suc place) others

-- none of these events is refused as it is tried, one after another
abbrev pub NoneRefused : List RoundEvent → Played → Type 0
NoneRefused [] world = Unit {0}
NoneRefused (first ∷ others) world = (refusal_of first.event world ≡ None) × NoneRefused others (after world first.event)

-- What a round leaves comes in the next one: these are its deliveries, in the order of sending, and none is refused.
pub record AllCome (old new : Flowing) (leaves : LeavesFresh old new) : Type 0 where
  pub due : deliveries (arrival_in new.state) new.passed (length new.state.run.sent - new.passed) ≡ arrivals new.passed leaves.more
  pub none : NoneRefused (arrivals new.passed leaves.more) (after new.state (round_of_time new.state.sited.site))
