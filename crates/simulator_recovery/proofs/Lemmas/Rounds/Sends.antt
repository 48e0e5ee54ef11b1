-- What is sent in a round, and how many of the datagrams a flow has gone past after it.
use Rattle.simulator_recovery.proofs.Words.Basics.{◌≡◌, ℕ, zero, suc, ◌-◌, Bool, true, false, nat_lt, List, [], ◌∷◌, ◌++◌, append_assoc, append-nil, length, Option, Some, None, slice_get, slice_set, refl, sym, ap, subst, ◌∙◌, if◌then◌else◌, slice_index_or}
use Rattle.simulator_recovery.proofs.Words.Links.{Each, handed_out, OnLink, sent_on, spellings, Role}
use Rattle.simulator_recovery.proofs.Words.Controllers.{Occupancy, Behaviour, HostSoFar, Input as HostInput, Sense, signal_behaviour, point_behaviour, detection_behaviour}
use Rattle.simulator_recovery.proofs.Words.Interlockings.{Table}
use Rattle.simulator_recovery.proofs.Words.Stations.{Site, Event, FoundDriven, RoundEvent, Flowing, all_did, deliveries, did, position_of, reach, reaches, round, round_of_time, ticks, coming, delivered_to, detector_stepped, happens, interlocking_stepped, passed, point_stepped, sensed_by, signal_stepped, stepped_at, ticked_at, connection_of, copy_of, Detector, Interlocking, Node, detector_link, links, node_at, point_link, controller_after, sent_by_controller, step_of, ClockedControllerState, WorldState, Sending, begun_by, interlocking_step, link_of, sending_all, sending_one, Played, after, arrival_in}
use Rattle.simulator_recovery.proofs.Words.Recovery.{behind_time, IsFresh, IsWork, LeavesFresh, all_tried}
use Rattle.simulator_spec.specs.ixl_spec.Step as ixl
use Rattle.simulator_spec.specs.Nodes.{Point, Signal}
use Rattle.simulator_recovery.proofs.Lemmas.Rounds.Clocks.{IsCalm}
use Rattle.simulator_recovery.proofs.Lemmas.Rounds.Rounds.{behind_calm, calm_keeps, round_state, time_happens, tried_keeps, work_calm}

-- Datagrams were sent now, after those that were sent before.
pub record Adds (old new : WorldState) : Type 0 where
  pub time : new.time ≡ old.time
  pub more : List OnLink
  pub sent : new.sent ≡ old.sent ++ more
  pub fresh : Each (IsFresh old.time) more

pub adds_none : (world : WorldState) → Adds world world
adds_none world = record { time = refl; more = []; sent = sym (append-nil world.sent); fresh = tt }

each_joined : (P : OnLink → Type 0) (one other : List OnLink) → Each P one → Each P other → Each P (one ++ other)
each_joined P [] other first second = second
each_joined P (head ∷ one) other first second = (first.0, each_joined P one other first.1 second)

adds_then : (one two three : WorldState) → Adds one two → Adds two three → Adds one three
adds_then one two three first second = record {
  time = second.time ∙ first.time;
  more = first.more ++ second.more;
  sent = second.sent ∙ (ap (λ (l : List OnLink). l ++ second.more) first.sent ∙ append_assoc one.sent first.more second.more);
  fresh = each_joined (IsFresh one.time) first.more second.more first.fresh (subst (λ (t : ℕ). Each (IsFresh t) second.more) first.time second.fresh);
}

fresh_handed : (link time : ℕ) (who : Role) (connection : Option ℕ) (datagrams : List (List ℕ)) → Each (IsFresh time) (sent_on link (handed_out time who connection datagrams))
fresh_handed link time who connection [] = tt
fresh_handed link time who connection (first ∷ others) = ((refl, refl), fresh_handed link time who connection others)

-- ---- steps

record Sends (time : ℕ) (old new : List OnLink) : Type 0 where
  more : List OnLink
  sent : new ≡ old ++ more
  fresh : Each (IsFresh time) more

server_fresh : {Object : Type 0} (done : HostSoFar Object) (time link : ℕ) (old new : ClockedControllerState Object) → Each (IsFresh time) (sent_by_controller done time link old new)
unfolding sent_by_controller
server_fresh done time link old new = fresh_handed link time Role.Server new.connection (spellings old.host.link.identity.key done.pdus)

stepped_sends : {Object : Type 0} (does : Behaviour Object) (input : HostInput) (connection time link place : ℕ) (servers : List (ClockedControllerState Object)) (sent : List OnLink) (found : Option (ClockedControllerState Object))
    → Sends time sent (stepped_at does input connection time link place found (record { servers = servers; sent = sent })).sent
unfolding stepped_at
stepped_sends does input connection time link place servers sent None = record { more = []; sent = sym (append-nil sent); fresh = tt }
stepped_sends does input connection time link place servers sent (Some server) =
    let new = controller_after (step_of does input server) connection (length sent) server
    in record {
      more = sent_by_controller (step_of does input server) time link server new;
      sent = refl;
      fresh = server_fresh (step_of does input server) time link server new;
    }

signal_adds : (site : Site) (input : HostInput) (connection place : ℕ) (world : WorldState) → Adds world (signal_stepped site input connection place world)
unfolding signal_stepped
signal_adds site input connection place world =
    let all = stepped_sends signal_behaviour input connection world.time place place world.signals world.sent (slice_get world.signals place)
    in record { time = refl; more = all.more; sent = all.sent; fresh = all.fresh }

point_adds : (site : Site) (input : HostInput) (connection place : ℕ) (world : WorldState) → Adds world (point_stepped site input connection place world)
unfolding point_stepped
point_adds site input connection place world =
    let all = stepped_sends point_behaviour input connection world.time (point_link site place) place world.points world.sent (slice_get world.points place)
    in record { time = refl; more = all.more; sent = all.sent; fresh = all.fresh }

detector_adds : (site : Site) (input : HostInput) (connection place : ℕ) (world : WorldState) → Adds world (detector_stepped site input connection place world)
unfolding detector_stepped
detector_adds site input connection place world =
    let all = stepped_sends detection_behaviour input connection world.time (detector_link site place) place world.detectors world.sent (slice_get world.detectors place)
    in record { time = refl; more = all.more; sent = all.sent; fresh = all.fresh }

one_sends : (site : Site) (time : ℕ) (bytes : List ℕ) (sending : Sending) → Sends time sending.sent (sending_one site time bytes sending).sent
unfolding sending_one
one_sends site time bytes sending =
    let link = link_of site bytes
    in let connection = slice_index_or (begun_by link (length sending.sent) bytes sending.connections) link None
    in record {
      more = sent_on link (handed_out time Role.Client connection (bytes ∷ []));
      sent = refl;
      fresh = fresh_handed link time Role.Client connection (bytes ∷ []);
    }

all_sends : (site : Site) (time : ℕ) (datagrams : List (List ℕ)) (sending : Sending) → Sends time sending.sent (sending_all site time datagrams sending).sent
unfolding sending_all
all_sends site time [] sending = record { more = []; sent = sym (append-nil sending.sent); fresh = tt }
all_sends site time (first ∷ others) sending =
    let one = one_sends site time first sending
    in let rest = all_sends site time others (sending_one site time first sending)
    in record {
      more = one.more ++ rest.more;
      sent = rest.sent ∙ (ap (λ (l : List OnLink). l ++ rest.more) one.sent ∙ append_assoc sending.sent one.more rest.more);
      fresh = each_joined (IsFresh time) one.more rest.more one.fresh rest.fresh;
    }

station_adds : (site : Site) (table : Table) (input : ixl.Input) (world : WorldState) → Adds world (interlocking_stepped site table input world)
unfolding interlocking_stepped
station_adds site table input world =
    let all = all_sends site world.time (interlocking_step site table input world.interlocking).outbox.datagrams (record { connections = world.interlocking.connections; sent = world.sent })
    in record { time = refl; more = all.more; sent = all.sent; fresh = all.fresh }

-- ---- every event but time, restarts and losses

module _ (site : Site) (table : Table) where
  ticked_adds : (at : Option Node) (world : WorldState) → Adds world (ticked_at site table at world)
  ticked_adds None world = adds_none world
  ticked_adds (Some Interlocking) world = station_adds site table ixl.Tick world
  ticked_adds (Some (Signal place)) world = signal_adds site HostInput.Tick 0 place world
  ticked_adds (Some (Point place)) world = point_adds site HostInput.Tick 0 place world
  ticked_adds (Some (Detector place)) world = detector_adds site HostInput.Tick 0 place world

  delivered_adds : (bytes : List ℕ) (connection : ℕ) (at : Option Node) (world : WorldState) → Adds world (delivered_to site table bytes connection at world)
  delivered_adds bytes connection None world = adds_none world
  delivered_adds bytes connection (Some Interlocking) world = station_adds site table (ixl.Datagram bytes) world
  delivered_adds bytes connection (Some (Signal place)) world = signal_adds site (coming bytes) connection place world
  delivered_adds bytes connection (Some (Point place)) world = point_adds site (coming bytes) connection place world
  delivered_adds bytes connection (Some (Detector place)) world = detector_adds site (coming bytes) connection place world

  sensed_adds : (occupancy : Occupancy) (reporter : Option (ℕ × ℕ)) (world : WorldState) → Adds world (sensed_by site occupancy reporter world)
  sensed_adds occupancy None world = adds_none world
  sensed_adds occupancy (Some reporter) world = detector_adds site (HostInput.Sense (Sense.Section reporter.1 occupancy)) 0 reporter.0 world

  moved_adds : (old world new : WorldState) → world.time ≡ old.time → world.sent ≡ old.sent → Adds world new → Adds old new
  moved_adds old world new time sent adds = record {
    time = adds.time ∙ time;
    more = adds.more;
    sent = adds.sent ∙ ap (λ (l : List OnLink). l ++ adds.more) sent;
    fresh = subst (λ (t : ℕ). Each (IsFresh t) adds.more) time adds.fresh;
  }

  calm_adds : (happening : Event) (world : WorldState) → IsCalm happening → Adds world (happens site table happening world)
  unfolding happens
  calm_adds (Event.Request command) world calm = station_adds site table (ixl.Commands command) world
  calm_adds (Event.Occupy section occupancy) world calm =
      let between : WorldState = record world { occupancies = slice_set world.occupancies section.0 occupancy }
      in moved_adds world between (sensed_by site occupancy (slice_get table.reporters section.0) between) refl refl (sensed_adds occupancy (slice_get table.reporters section.0) between)
  calm_adds (Event.Tick node) world calm = ticked_adds (node_at site node.0) world
  calm_adds (Event.Time elapsed clocks) world calm = absurd calm
  calm_adds (Event.Deliver node bytes) world calm = delivered_adds bytes (connection_of (copy_of bytes world)) (node_at site node.0) world
  calm_adds (Event.Lose bytes) world calm = absurd calm
  calm_adds (Event.Reach point position) world calm =
      let between : WorldState = record world { positions = slice_set world.positions point.0 position }
      in moved_adds world between (point_stepped site (HostInput.Sense (Sense.Position position)) 0 point.0 between) refl refl (point_adds site (HostInput.Sense (Sense.Position position)) 0 point.0 between)
  calm_adds (Event.Restart node clock first) world calm = absurd calm

-- ---- a round

pub record HasAdded (old : WorldState) (world : Played) : Type 0 where
  pub is : Adds old world.run

pub tried_adds : (old : WorldState) (world : Played) (one : Event) → IsCalm one → HasAdded old world → HasAdded old (after world one)
tried_adds old world one calm is = tried_keeps (HasAdded old) world one is (λ none. record { is = adds_then old world.run _ is.is (calm_adds world.sited.site world.sited.table one world.run calm) })

work_adds : (old : WorldState) (between : List Event) (flowing : Flowing) → Each IsWork between → HasAdded old flowing.state → HasAdded old (all_tried between flowing).state
work_adds old [] flowing work is = is
work_adds old (first ∷ others) flowing work is = work_adds old others (record flowing { state = after flowing.state first }) work.1 (tried_adds old flowing.state first (work_calm first work.0) is)

-- by the time of a round nothing is sent
pub record SameSent (old : WorldState) (world : Played) : Type 0 where
  pub sent : world.run.sent ≡ old.sent

passed_sent : (elapsed : ℕ) (clocks : List ℕ) (world : WorldState) → (passed elapsed clocks world).sent ≡ world.sent
unfolding passed
passed_sent elapsed clocks world = refl

pub time_sends_none : (world : Played) → SameSent world.run (after world (round_of_time world.sited.site))
time_sends_none world = tried_keeps (SameSent world.run) world (round_of_time world.sited.site) (record { sent = refl })
    (λ none. record { sent = ap (λ (w : WorldState). w.sent) (time_happens world.sited.site world.sited.table world.run) ∙ passed_sent 10000 _ world.run })

-- ---- how many a flow has gone past

abbrev AllAt : ℕ → List RoundEvent → Type 0
AllAt n [] = Unit {0}
AllAt n (first ∷ others) = (first.passed ≡ n) × AllAt n others

all_joined : (n : ℕ) (one other : List RoundEvent) → AllAt n one → AllAt n other → AllAt n (one ++ other)
all_joined n [] other first second = second
all_joined n (head ∷ one) other first second = (first.0, all_joined n one other first.1 second)

ticks_at : (n node more : ℕ) → AllAt n (ticks n node more)
unfolding ticks
ticks_at n node zero = tt
ticks_at n node (suc more) = (refl, ticks_at n (suc node) more)

reach_at : (n point : ℕ) (drive : Option FoundDriven) → AllAt n (reach n point drive)
reach_at n point None = tt
reach_at n point (Some drive) = choose (nat_lt drive.rounds 50)
  where
    choose : (b : Bool) → AllAt n (if b then [] else (record { event = Event.Reach (record { 0 = point }) (position_of drive.side); passed = n } ∷ []))
    choose true = tt
    choose false = (refl, tt)

reaches_at : (n point : ℕ) (drives : List (Option FoundDriven)) → AllAt n (reaches n point drives)
unfolding reaches
reaches_at n point [] = tt
reaches_at n point (drive ∷ drives) = all_joined n (reach n point drive) (reaches n (suc point) drives) (reach_at n point drive) (reaches_at n (suc point) drives)

did_at : (n : ℕ) (list : List RoundEvent) (flowing : Flowing) → AllAt n list → flowing.passed ≡ n → (all_did list flowing).passed ≡ n
unfolding all_did
did_at n [] flowing all here = here
did_at n (first ∷ others) flowing all here = did_at n others (did first flowing) all.1 all.0

-- events of which the last are at a number, of which there is one
did_then : (n : ℕ) (one : List RoundEvent) (first : RoundEvent) (others : List RoundEvent) (flowing : Flowing) → AllAt n (first ∷ others) → (all_did (one ++ first ∷ others) flowing).passed ≡ n
unfolding all_did
did_then n [] first others flowing all = did_at n others (did first flowing) all.1 all.0
did_then n (head ∷ one) first others flowing all = did_then n one first others (did head flowing) all

tried_passed : (between : List Event) (flowing : Flowing) → (all_tried between flowing).passed ≡ flowing.passed
tried_passed [] flowing = refl
tried_passed (first ∷ others) flowing = tried_passed others (record flowing { state = after flowing.state first })

round_passed : (flowing : Flowing) → (round flowing).passed ≡ length flowing.state.run.sent
unfolding all_did ticks
round_passed flowing =
    let n = length flowing.state.run.sent
    in let site = flowing.state.sited.site
    in did_then n (deliveries (arrival_in flowing.state) flowing.passed (n - flowing.passed)) (record { event = Event.Tick (record { 0 = 0 }); passed = n })
    (ticks n 1 (links site) ++ reaches n 0 flowing.drives) (did (record { event = round_of_time site; passed = flowing.passed }) flowing)
    (refl, all_joined n (ticks n 1 (links site)) (reaches n 0 flowing.drives) (ticks_at n 1 (links site)) (reaches_at n 0 flowing.drives))

pub leaves_fresh : (between : List Event) (flowing : Flowing) → Each IsWork between → LeavesFresh flowing (all_tried between (round flowing))
leaves_fresh between flowing work = record {
  passed = tried_passed between (round flowing) ∙ round_passed flowing;
  more = all.is.more;
  sent = all.is.sent ∙ ap (λ (l : List OnLink). l ++ all.is.more) (time_sends_none flowing.state).sent;
  fresh = subst (λ (t : ℕ). Each (IsFresh t) all.is.more) (sym all.is.time) all.is.fresh;
}
  where
    then_world : WorldState
    then_world = (after flowing.state (round_of_time flowing.state.sited.site)).run

    behind : HasAdded then_world (round flowing).state
    behind = subst (HasAdded then_world) (sym (round_state flowing))
        (calm_keeps (HasAdded then_world) (λ world one calm before. tried_adds then_world world one calm before) (behind_time flowing)
        (did (record { event = round_of_time flowing.state.sited.site; passed = flowing.passed }) flowing) (behind_calm flowing) (record { is = adds_none then_world }))

    all : HasAdded then_world (all_tried between (round flowing)).state
    all = work_adds then_world between (round flowing) work behind
