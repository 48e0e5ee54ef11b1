-- Good rounds of a station, as events of its links.
use Rattle.simulator_recovery.proofs.Words.Basics.{◌≡◌, ℕ, zero, suc, ◌<◌, List, [], ◌∷◌, ◌++◌, append_assoc, map, replicate, Option, Some, None, slice_get, refl, sym, ap, subst, ◌∙◌, arith, slice_index_or}
use Rattle.simulator_recovery.proofs.Words.Links.{Each, AreTimely, AreLinks, CallsOn, Links, LinksEvent, MayRunLinks, happened_to, run_links, Names, NodeCall, Role}
use Rattle.simulator_recovery.proofs.Words.Controllers.{Behaviour, Input as HostInput, Sense, signal_behaviour, point_behaviour, detection_behaviour, Section}
use Rattle.simulator_recovery.proofs.Words.Interlockings.{SitedTable, Table}
use Rattle.simulator_recovery.proofs.Words.Stations.{Site, Once, IsStation, Event, Refused, RoundEvent, Flowing, all_did, did, round, round_of_time, coming, happens, AreLinksOf, names_at, connection_of, copy_of, Detector, Interlocking, Node, detector_link, links, node_at, point_link, refusal, ClockedControllerState, ClockedInterlockingState, WorldState, Played, after, refusal_of, world_where, contact_events, delivery_events, events_of, host_events, interlocking_events, tick_events, IsWhole}
use Rattle.simulator_recovery.proofs.Words.Recovery.{all_events_tried, behind_time, event_of, events_tried, events_where, IsWork, all_tried, LawsBelow}
use Rattle.simulator_spec.specs.ixl_spec.Step as ixl
use Rattle.simulator_spec.specs.Nodes.{Point, Signal}
use Rattle.simulator_recovery.proofs.Lemmas.Rounds.Clocks.{IsCalm}
use Rattle.simulator_recovery.proofs.Lemmas.Ground.EndCalls.{IsCallOn, each_both}
use Rattle.simulator_recovery.proofs.Lemmas.Rounds.Rounds.{AreCalm, behind_calm, round_state, work_calm, events_are}

-- ---- what happens to a station but time, a loss and a restart are calls at the ends of its links

all_called : {X : Type 0} (f : X → LinksEvent) → ((x : X) → IsCallOn (f x)) → (list : List X) → Each IsCallOn (map f list)
all_called f each [] = tt
all_called f each (first ∷ others) = (each first, all_called f each others)

pub host_called : {Object : Type 0} (does : Behaviour Object) (input : HostInput) (connection link : ℕ) (found : Option (ClockedControllerState Object)) → Each IsCallOn (host_events does input connection link found)
host_called does input connection link None = tt
host_called does input connection link (Some server) = all_called (λ call. CallsOn link Role.Server call) (λ call. tt) _

station_called : (site : Site) (table : Table) (input : ixl.Input) (connection : ℕ) (station : ClockedInterlockingState) → Each IsCallOn (interlocking_events site table input connection station)
station_called site table input connection station = all_called (λ (made : NodeCall). CallsOn made.link Role.Client made.call) (λ made. tt) _

contact_called : (site : Site) (found : Option (ℕ × ℕ)) (input : ℕ → HostInput) (detectors : List (ClockedControllerState (List Section))) → Each IsCallOn (contact_events site found input detectors)
contact_called site None input detectors = tt
contact_called site (Some reporter) input detectors = host_called detection_behaviour (input reporter.1) 0 (detector_link site reporter.0) (slice_get detectors reporter.0)

tick_called : (site : Site) (table : Table) (node : Option Node) (world : WorldState) → Each IsCallOn (tick_events site table node world)
tick_called site table None world = tt
tick_called site table (Some Interlocking) world = station_called site table ixl.Tick 0 world.interlocking
tick_called site table (Some (Signal place)) world = host_called signal_behaviour HostInput.Tick 0 place (slice_get world.signals place)
tick_called site table (Some (Point place)) world = host_called point_behaviour HostInput.Tick 0 (point_link site place) (slice_get world.points place)
tick_called site table (Some (Detector place)) world = host_called detection_behaviour HostInput.Tick 0 (detector_link site place) (slice_get world.detectors place)

delivery_called : (site : Site) (table : Table) (bytes : List ℕ) (connection : ℕ) (node : Option Node) (world : WorldState) → Each IsCallOn (delivery_events site table bytes connection node world)
delivery_called site table bytes connection None world = tt
delivery_called site table bytes connection (Some Interlocking) world = station_called site table (ixl.Datagram bytes) connection world.interlocking
delivery_called site table bytes connection (Some (Signal place)) world = host_called signal_behaviour (coming bytes) connection place (slice_get world.signals place)
delivery_called site table bytes connection (Some (Point place)) world = host_called point_behaviour (coming bytes) connection (point_link site place) (slice_get world.points place)
delivery_called site table bytes connection (Some (Detector place)) world = host_called detection_behaviour (coming bytes) connection (detector_link site place) (slice_get world.detectors place)

pub calm_called : (site : Site) (table : Table) (one : Event) (world : WorldState) → IsCalm one → Each IsCallOn (events_of site table one world)
unfolding events_of
calm_called site table (Event.Request command) world calm = station_called site table (ixl.Commands command) 0 world.interlocking
calm_called site table (Event.Occupy section occupancy) world calm = contact_called site (slice_get table.reporters section.0) (λ place. HostInput.Sense (Sense.Section place occupancy)) world.detectors
calm_called site table (Event.Tick node) world calm = tick_called site table (node_at site node.0) world
calm_called site table (Event.Time elapsed clocks) world calm = absurd calm
calm_called site table (Event.Deliver node bytes) world calm = delivery_called site table bytes (connection_of (copy_of bytes world)) (node_at site node.0) world
calm_called site table (Event.Lose bytes) world calm = absurd calm
calm_called site table (Event.Reach point position) world calm = host_called point_behaviour (HostInput.Sense (Sense.Position position)) 0 (point_link site point.0) (slice_get world.points point.0)
calm_called site table (Event.Restart node clock first) world calm = absurd calm

-- ---- what is tried

abbrev pub after_each : List Event → Played → Played
after_each [] world = world
after_each (first ∷ others) world = after_each others (after world first)

pub after_both : (one other : List Event) (world : Played) → after_each (one ++ other) world ≡ after_each other (after_each one world)
after_both [] other world = refl
after_both (first ∷ one) other world = after_both one other (after world first)

pub events_both : (one other : List Event) (world : Played) → all_events_tried (one ++ other) world ≡ all_events_tried one world ++ all_events_tried other (after_each one world)
events_both [] other world = refl
events_both (first ∷ one) other world =
    ap (λ (rest : List LinksEvent). events_tried first world ++ rest) (events_both one other (after world first))
    ∙ sym (append_assoc (events_tried first world) (all_events_tried one (after world first)) (all_events_tried other (after_each one (after world first))))

did_each : (list : List RoundEvent) (flowing : Flowing) → (all_did list flowing).state ≡ after_each (map event_of list) flowing.state
unfolding all_did
did_each [] flowing = refl
did_each (first ∷ others) flowing = did_each others (did first flowing)

pub tried_each : (between : List Event) (flowing : Flowing) → (all_tried between flowing).state ≡ after_each between flowing.state
tried_each [] flowing = refl
tried_each (first ∷ others) flowing = tried_each others (record flowing { state = after flowing.state first })

-- a round, and what comes after it
pub round_tried : (between : List Event) (flowing : Flowing)
    → (all_tried between (round flowing)).state ≡ after_each (map event_of (behind_time flowing) ++ between) (after flowing.state (round_of_time flowing.state.sited.site))
round_tried between flowing =
    tried_each between (round flowing)
    ∙ ap (after_each between) (round_state flowing ∙ did_each (behind_time flowing) (did (record { event = round_of_time flowing.state.sited.site; passed = flowing.passed }) flowing))
    ∙ sym (after_both (map event_of (behind_time flowing)) between (after flowing.state (round_of_time flowing.state.sited.site)))

-- each of them is a call
where_called : (why : Option Refused) (events : List LinksEvent) → Each IsCallOn events → Each IsCallOn (events_where why events)
where_called None events each = each
where_called (Some why) events each = tt

all_calm_called : (list : List Event) (world : Played) → Each IsCalm list → Each IsCallOn (all_events_tried list world)
all_calm_called [] world calm = tt
all_calm_called (first ∷ others) world calm =
    each_both IsCallOn (events_tried first world) (all_events_tried others (after world first))
    (where_called (refusal_of first world) _ (calm_called world.sited.site world.sited.table first world.run calm.0)) (all_calm_called others (after world first) calm.1)

pub calm_events : (list : List RoundEvent) → AreCalm list → Each IsCalm (map event_of list)
calm_events = events_are IsCalm

pub work_events : (between : List Event) → Each IsWork between → Each IsCalm between
work_events [] work = tt
work_events (first ∷ others) work = (work_calm first work.0, work_events others work.1)

pub round_called : (between : List Event) (flowing : Flowing) (world : Played) → Each IsWork between → Each IsCallOn (all_events_tried (map event_of (behind_time flowing) ++ between) world)
round_called between flowing world work =
    all_calm_called (map event_of (behind_time flowing) ++ between) world
    (each_both IsCalm (map event_of (behind_time flowing)) between (calm_events (behind_time flowing) (behind_calm flowing)) (work_events between work))

-- ---- lists of events

pub links_both : (one other : List LinksEvent) (before : Links) → run_links (one ++ other) before ≡ run_links other (run_links one before)
links_both [] other before = refl
links_both (first ∷ one) other before = links_both one other (happened_to first before)

pub may_both : (count : ℕ) (names : ℕ → Names) (one other : List LinksEvent) (before : Links) → MayRunLinks count names one before → MayRunLinks count names other (run_links one before) → MayRunLinks count names (one ++ other) before
may_both count names [] other before first second = second
may_both count names (head ∷ one) other before first second = (first.0, may_both count names one other (happened_to head before) first.1 second)

-- the step of each clock in a round
abbrev ten : ℕ
ten = 10000

pub tens_at : (n place : ℕ) → place < n → slice_index_or (replicate n ten) place 0 ≡ ten
tens_at zero place below = absurd (omega (arith, below))
tens_at (suc n) zero below = refl
tens_at (suc n) (suc place) below = tens_at n place (omega (arith, below))

-- ---- a station and its links

-- a station of this data, and its links
pub record HasThese (sited : SitedTable) (world : Played) (these : Links) : Type 0 where
  pub same : world.sited ≡ sited
  pub whole : IsWhole sited.site world.run
  pub timely : AreTimely (links sited.site) (names_at sited.site) these
  pub are : AreLinksOf sited.site world.run these

-- an event that happens is one of the links
pub record FollowsThese (sited : SitedTable) (one : Event) (before : Links) (old new : WorldState) : Type 0 where
  pub may : MayRunLinks (links sited.site) (names_at sited.site) (events_of sited.site sited.table one old) before
  pub whole : IsWhole sited.site new
  pub timely : AreTimely (links sited.site) (names_at sited.site) (run_links (events_of sited.site sited.table one old) before)
  pub are : AreLinksOf sited.site new (run_links (events_of sited.site sited.table one old) before)

-- events at its links led to it
pub record Followed (sited : SitedTable) (events : List LinksEvent) (before : Links) (new : Played) : Type 0 where
  pub may : MayRunLinks (links sited.site) (names_at sited.site) events before
  pub has : HasThese sited new (run_links events before)

module _ (laws : LawsBelow) (sited : SitedTable) (station : IsStation sited.site) (once : Once sited.site) where
  pub are_links : AreLinks (links sited.site) (names_at sited.site)
  are_links = laws.layouts_name_their_links sited.site station once

  pub follows : (world : Played) (one : Event) (before : Links) → HasThese sited world before → refusal world.sited.site one world.run ≡ None
      → FollowsThese sited one before world.run (happens world.sited.site world.sited.table one world.run)
  follows world one before has none = subst (λ (s : SitedTable). refusal s.site one world.run ≡ None → FollowsThese sited one before world.run (happens s.site s.table one world.run)) (sym has.same) still none
    where
      still : refusal sited.site one world.run ≡ None → FollowsThese sited one before world.run (happens sited.site sited.table one world.run)
      still none_here =
          let by = laws.events_are_those_of_the_links_exactly sited.site sited.table one world.run before are_links has.whole has.timely has.are none_here
          in record {
            may = by.may;
            whole = laws.events_are_those_of_the_links_whole sited.site sited.table one world.run before are_links station has.whole has.timely has.are none_here;
            timely = laws.links_keep_time_run (links sited.site) (names_at sited.site) (events_of sited.site sited.table one world.run) before are_links has.timely by.may;
            are = by.are;
          }

  -- what is tried
  pub tried_followed : (one : Event) (world : Played) (before : Links) → HasThese sited world before → Followed sited (events_tried one world) before (after world one)
  tried_followed one world before has = cases (refusal_of one world) refl
    where
      cases : (why : Option Refused) → refusal_of one world ≡ why
          → Followed sited (events_where why (events_of world.sited.site world.sited.table one world.run)) before (world_where why world (record world { run = happens world.sited.site world.sited.table one world.run }))
      cases (Some why) e = record { may = tt; has = has }
      cases None e =
          let f = follows world one before has e
          in let same : events_of sited.site sited.table one world.run ≡ events_of world.sited.site world.sited.table one world.run = ap (λ (s : SitedTable). events_of s.site s.table one world.run) (sym has.same)
          in record {
            may = subst (λ (events : List LinksEvent). MayRunLinks (links sited.site) (names_at sited.site) events before) same f.may;
            has = record {
              same = has.same;
              whole = f.whole;
              timely = subst (λ (events : List LinksEvent). AreTimely (links sited.site) (names_at sited.site) (run_links events before)) same f.timely;
              are = subst (λ (events : List LinksEvent). AreLinksOf sited.site (happens world.sited.site world.sited.table one world.run) (run_links events before)) same f.are;
            };
          }

  pub then_followed : (one other : List LinksEvent) (before : Links) (mid new : Played) → Followed sited one before mid → Followed sited other (run_links one before) new → Followed sited (one ++ other) before new
  then_followed one other before mid new first second = record {
    may = may_both (links sited.site) (names_at sited.site) one other before first.may second.may;
    has = subst (HasThese sited new) (sym (links_both one other before)) second.has;
  }

  pub all_followed : (list : List Event) (world : Played) (before : Links) → HasThese sited world before → Followed sited (all_events_tried list world) before (after_each list world)
  all_followed [] world before has = record { may = tt; has = has }
  all_followed (first ∷ others) world before has =
      let one = tried_followed first world before has
      in then_followed (events_tried first world) (all_events_tried others (after world first)) before (after world first) (after_each others (after world first)) one
      (all_followed others (after world first) (run_links (events_tried first world) before) one.has)
