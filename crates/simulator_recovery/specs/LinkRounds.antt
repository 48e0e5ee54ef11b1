-- What a link of a station goes through in good rounds.
use Rattle.std.specs.Prelude.{◌≡◌, ℕ, ◌-◌, true, List, [], ◌∷◌, ◌++◌, length, map, Option, Some, None, slice_get}
use Rattle.rasta_core_recovery.specs.Rounds.{Flow}
use Rattle.rasta_core_recovery.specs.Work.{HasRoom, IsAtWork, work_round}
use Rattle.simulator_spec.specs.layout.Entries.{Site}
use Rattle.simulator_spec.specs.rasta_core.Clock.{settled}
use Rattle.simulator_spec.specs.rasta_core.Ends.{reading_of}
use Rattle.simulator_spec.specs.rasta_core.Events.{Event as LinkEvent}
use Rattle.simulator_spec.specs.rasta_core.Links.{Links, LinksEvent, happened_to, of_link, run_links, run_on, seen}
use Rattle.simulator_spec.specs.rasta_core.State.{LinkState, is_up}
use Rattle.simulator_spec.specs.simulator_event.declared.event.Event.{Event}
use Rattle.simulator_spec.specs.simulator_event.refused.Refused.{Refused}
use Rattle.simulator_spec.specs.declared.round.RoundEvent.{RoundEvent}
use Rattle.simulator_spec.specs.Flow.{Flowing, deliveries, reaches, round, round_of_time, ticks}
use Rattle.simulator_spec.specs.Links.{AreLinksOf, ServerEnd, client_links, names_at, server_ends}
use Rattle.simulator_spec.specs.Nodes.{nodes}
use Rattle.simulator_spec.specs.State.{WorldState}
use Rattle.simulator_spec.specs.Tried.{Played, after, arrival_in, refusal_of}
use Rattle.simulator_link_laws.specs.Events.{events_of}
use Rattle.simulator_recovery.specs.Rounds.{all_tried}

-- ---- what is tried, as events of the links

-- an event that is refused is none
abbrev pub events_where : Option Refused → List LinksEvent → List LinksEvent
events_where (Some why) events = []
events_where None events = events

abbrev pub events_tried : Event → Played → List LinksEvent
events_tried one world = events_where (refusal_of one world) (events_of world.sited.site world.sited.table one world.run)

-- one after another
abbrev pub all_events_tried : List Event → Played → List LinksEvent
all_events_tried [] world = []
all_events_tried (first ∷ others) world = events_tried first world ++ all_events_tried others (after world first)

-- what is tried in a round after its time: what was sent before it comes, each node ticks, and points come to lie
abbrev pub behind_time : Flowing → List RoundEvent
behind_time flowing =
    deliveries (arrival_in flowing.state) flowing.passed (length flowing.state.run.sent - flowing.passed)
    ++ (ticks (length flowing.state.run.sent) 0 (nodes flowing.state.sited.site) ++ reaches (length flowing.state.run.sent) 0 flowing.drives)

abbrev pub event_of : RoundEvent → Event
event_of one = one.event

-- the time of a round, and the calls at all links after it: in the round, and between it and the next
abbrev pub time_of_round : Flowing → List LinksEvent
time_of_round flowing = events_tried (round_of_time flowing.state.sited.site) flowing.state

abbrev pub calls_of_round : List Event → Flowing → List LinksEvent
calls_of_round between flowing =
    all_events_tried (map event_of (behind_time flowing) ++ between) (after flowing.state (round_of_time flowing.state.sited.site))

-- the links after a round
abbrev pub links_behind : List Event → Flowing → Links → Links
links_behind between flowing before = run_links (calls_of_round between flowing) (run_links (time_of_round flowing) before)

-- ---- a round of one link

-- the two ends of a link, and how many of its datagrams no round tries any more
abbrev pub flow_of : ℕ → ℕ → Links → Flow
flow_of link passed before = record { ends = seen link before; passed = passed }

-- what the calls of a round are to a link
abbrev pub calls_on : ℕ → List Event → Flowing → Links → List LinkEvent
calls_on link between flowing before = run_on link (calls_of_round between flowing) (run_links (time_of_round flowing) before)

-- A good round of a station is a round at work of this link: 10 ms pass at both its ends; then at each end all comes that was
-- sent to it since the round before began, in that order, it ticks, and a client opens. In between the end may be given items,
-- and be closed.
pub record IsAtWorkOn (site : Site) (link : ℕ) (between : List Event) (old new : Flowing) (before : Links) : Type 0 where
  pub are : AreLinksOf site (all_tried between (round new)).state.run (links_behind between new before)
  pub work : IsAtWork (names_at site link) (flow_of link (length (of_link link old.state.run.sent)) before) (calls_on link between new before)
  pub leads : seen link (links_behind between new before) ≡ (work_round (calls_on link between new before) (flow_of link (length (of_link link old.state.run.sent)) before)).ends

-- ---- premises on a link

-- an end of this link that is in a connection has sent fewer PDUs in it than the limit
abbrev pub HasRoomOn : ℕ → Links → Type 0
HasRoomOn link links = HasRoom (links.ends link).client × HasRoom (links.ends link).server

-- before each of these events, and after the last
abbrev pub HaveRoomOn : ℕ → List LinksEvent → Links → Type 0
HaveRoomOn link [] links = HasRoomOn link links
HaveRoomOn link (first ∷ others) links = HasRoomOn link links × HaveRoomOn link others (happened_to first links)

-- before each call of good rounds, and after the last
abbrev pub StayBelowOn : ℕ → List (List Event) → Flowing → Links → Type 0
StayBelowOn link [] flowing before = Unit {0}
StayBelowOn link (between ∷ later) flowing before =
    HaveRoomOn link (calls_of_round between flowing) (run_links (time_of_round flowing) before)
    × StayBelowOn link later (all_tried between (round flowing)) (links_behind between flowing before)

-- the same, whatever links they are that are those of the station
abbrev pub StaysBelowLimit : Site → ℕ → List (List Event) → Flowing → Type 0
StaysBelowLimit site link later flowing = (before : Links) → AreLinksOf site flowing.state.run before → StayBelowOn link later flowing before

-- ---- what it comes to

-- both ends of this link are up, at the clocks of the interlocking and of its controller
pub record IsUpOn (link : ℕ) (world : WorldState) : Type 0 where
  pub client : LinkState
  pub client_there : slice_get (client_links world.interlocking.ixl) link ≡ Some client
  pub client_up : is_up (settled (reading_of world.interlocking.clock) client).phase ≡ true
  pub server : ServerEnd
  pub server_there : slice_get (server_ends world) link ≡ Some server
  pub server_up : is_up (settled (reading_of server.clock) server.link).phase ≡ true

-- from this good round on each link is up at both ends where neither comes to the limit of PDUs: 15,620 ms after the good rounds began
abbrev pub link_rounds : ℕ
link_rounds = 1562

-- Both ends of this link are in one connection: the last of each.
pub record AreInOne (link : ℕ) (these : Links) : Type 0 where
  pub connection : ℕ
  pub client : (these.ends link).client.connection ≡ Some connection
  pub server : (these.ends link).server.connection ≡ Some connection
