-- A point that is known at a side, and held there by a set route, is known there as long as its link is in its connection.
use Rattle.simulator_recovery.proofs.Words.Basics.{◌≡◌, ◌≢◌, ◌⊎◌, inl, inr, ◌∙◌, ℕ, ◌≤◌, Bool, true, false, not, if◌then◌else◌, List, length, Some, None, slice_get, refl, sym, ap, subst, contains, empty, false≢true, same_Some, ◌&&◌, [], ◌∷◌, Option, Result, Ok, Err, bytes_eq}
use Rattle.simulator_recovery.proofs.Words.Links.{opening, ticking as link_ticking, reading_of, OutboxState, LinkState, confirmed_items, is_up, receiving, is_open, Reason, reading as pdu_reading, Key, settled}
use Rattle.simulator_recovery.proofs.Words.Controllers.{Aspect, Side, reading, SciFault, Initialisation, Message, Protocol, Telegram}
use Rattle.simulator_recovery.proofs.Words.Interlockings.{ClientState, is_available, is_outside, is_ready, begun, calling, fallen, ticking, Stage, AllClear, AllKnown, IsAvailable, IsClear, IsKnownSignalAtStop, IsSignalReady, Known, KnownStop, ReportedBy, IxlState, KnownDetectorState, KnownPointState, KnownSignalState, Commands, Datagram, Input, Tick, detector_ticking, known_point_ticking, known_signal_ticking, ticked, StepSoFar, begun_with, detector_after, empty_outbox, known_point_after, known_signal_after, Need, Table, PeerState, new_client, ClientSoFar, Closes, Receives, initial_meaning, is_for_client, is_in_version, meaning, meaning_of, place_of, report_meaning, reports_changes, state_in, acting, acting_all, clocked, commanding, following, hearing, meaning_of_item, rising, Indication, ObjectState, commanded_by, obeyed, refusal, unmoved_for, At, count, addressed, all_clocked, clocked_known_point, detector_hearing, given, known_point_hearing, known_signal_hearing, looking, looking_by, looks, node_hearing, occupied_heard, side_heard, Detector, Node as IxlNode, Point, Signal, noted, with_detector, with_one, was_authorised, Command, Refusal, giving_move}
use Rattle.simulator_recovery.proofs.Words.Stations.{Places, Site, interlocking_stepped, key_of, WorldState, IsReached, Beginning, new_ixl, new_known_point_of}
use Rattle.simulator_recovery.proofs.Words.Recovery.{ClientStandsAt, EachClient, IsInside, IsUpAtClock, known_in_step}
use Rattle.simulator_spec.specs.layout.declared.ids.PointId.{PointId}
use Rattle.simulator_recovery.proofs.Lemmas.Lamps.StopsGiven.{changed_elsewhere}
use Rattle.simulator_recovery.proofs.Lemmas.Ground.MovedAtOnce.{moved_where}
use Rattle.simulator_recovery.proofs.Lemmas.Ground.DueShapes.{one_keeps, over_keeps, along_keeps, route_keeps, where_keeps}
use Rattle.simulator_recovery.proofs.Lemmas.Ground.IxlAlways.{always_whole}
use Rattle.simulator_recovery.proofs.Lemmas.Ground.IxlClients.{step_kept, ClientsKeep, mapped_at, point_client}
use Rattle.simulator_recovery.proofs.Lemmas.Ground.IxlSoFar.{set_at}
use Rattle.simulator_recovery.proofs.Lemmas.Talk.Standing.{ClockedAt, clients_keep, new_clients}
use Rattle.simulator_recovery.proofs.Lemmas.Lamps.ConfirmedStops.{client_ticks}
use Rattle.simulator_recovery.proofs.Lemmas.Windows.WaitingItems.{ready_inside}
use Rattle.simulator_recovery.proofs.Lemmas.Ground.AtLink.{mapped}
use Rattle.simulator_recovery.proofs.Lemmas.Talk.ClientLinks.{clocked_peer, commanding_peer, hearing_peer, ticking_peer, up_open}
use Rattle.simulator_recovery.proofs.Lemmas.Ground.LinkCounts.{close_closes}
use Rattle.simulator_recovery.proofs.Lemmas.Ground.DueTests.{either}

-- ---- a tick brings nothing: after it each link is as it was, or outside

-- ---- stages

pub available_inside : (s : Stage) → is_available s ≡ true → is_outside s ≡ false
available_inside Stage.Outside e = absurd (false≢true e)
available_inside Stage.AwaitsAnswer e = refl
available_inside Stage.AwaitsStart e = refl
available_inside (Stage.AwaitsStatus left) e = refl
available_inside Stage.Completed e = refl
available_inside Stage.AwaitsReport e = refl

-- ---- the tick of a client

-- what a client is after a tick, where it isn't outside then
pub record TicksInside (client after : ClientState) : Type 0 where
  pub same : after.stage ≡ client.stage
  pub up : is_up after.link.phase ≡ true

pub inside_ticks : (now : ℕ) (client : ClientState) (outbox : OutboxState) → is_outside (ticking now (begun client outbox)).client.stage ≡ false → TicksInside client (ticking now (begun client outbox)).client
unfolding ticking calling fallen
inside_ticks now client outbox inside = choose (is_up k.phase) refl inside
  where
    k : LinkState
    k = (opening now (link_ticking now client.link).link).link

    late : ClientState
    late = record client { link = k }

    choose : (b : Bool) → is_up k.phase ≡ b → is_outside (if b then late else record late { stage = Stage.Outside }).stage ≡ false → TicksInside client (if b then late else record late { stage = Stage.Outside })
    choose true e f = record { same = refl; up = e }
    choose false e f = absurd (false≢true (sym f))

-- ---- what is kept of a controller

-- a signal that isn't outside, and what was kept of it before
pub record SignalStands (was known : KnownSignalState) : Type 0 where
  pub stage : known.client.stage ≡ was.client.stage
  pub aspect : known.aspect ≡ was.aspect
  pub number : known.number ≡ was.number
  pub up : is_up known.client.link.phase ≡ true → is_up was.client.link.phase ≡ true
  pub confirmed : is_up known.client.link.phase ≡ true → confirmed_items known.client.link ≡ confirmed_items was.client.link

-- a point
pub record PointStands (was known : KnownPointState) : Type 0 where
  pub stage : known.client.stage ≡ was.client.stage
  pub side : known.side ≡ was.side
  pub moved : known.moved ≡ was.moved

-- a detector
pub record DetectorStands (was known : KnownDetectorState) : Type 0 where
  pub stage : known.client.stage ≡ was.client.stage
  pub occupied : known.occupied ≡ was.occupied

signal_ticks : (now : ℕ) (known : KnownSignalState) (outbox : OutboxState) → is_outside (known_signal_after known.aspect known.number known.indicated (ticking now (begun known.client outbox)).client).client.stage ≡ false
    → SignalStands known (known_signal_after known.aspect known.number known.indicated (ticking now (begun known.client outbox)).client)
unfolding known_signal_after
signal_ticks now known outbox = choose (is_outside after.stage) refl
  where
    after : ClientState
    after = (ticking now (begun known.client outbox)).client

    none : KnownSignalState
    none = record { client = after; aspect = None; number = 0; indicated = None }

    some : KnownSignalState
    some = record { client = after; aspect = known.aspect; number = known.number; indicated = known.indicated }

    choose : (b : Bool) → is_outside after.stage ≡ b → is_outside (if b then none else some).client.stage ≡ false → SignalStands known (if b then none else some)
    choose true e inside = absurd (false≢true (sym inside ∙ e))
    choose false e inside = record {
      stage = (inside_ticks now known.client outbox e).same;
      aspect = refl;
      number = refl;
      up = λ up. (client_ticks now known.client outbox up).up;
      confirmed = λ up. (client_ticks now known.client outbox up).confirmed;
    }

point_ticks : (now : ℕ) (known : KnownPointState) (outbox : OutboxState) → is_outside (known_point_after known.side known.moved (ticking now (begun known.client outbox)).client).client.stage ≡ false
    → PointStands known (known_point_after known.side known.moved (ticking now (begun known.client outbox)).client)
unfolding known_point_after
point_ticks now known outbox = choose (is_outside after.stage) refl
  where
    after : ClientState
    after = (ticking now (begun known.client outbox)).client

    none : KnownPointState
    none = record { client = after; side = None; moved = empty }

    some : KnownPointState
    some = record { client = after; side = known.side; moved = known.moved }

    choose : (b : Bool) → is_outside after.stage ≡ b → is_outside (if b then none else some).client.stage ≡ false → PointStands known (if b then none else some)
    choose true e inside = absurd (false≢true (sym inside ∙ e))
    choose false e inside = record { stage = (inside_ticks now known.client outbox e).same; side = refl; moved = refl }

detector_ticks : (now : ℕ) (known : KnownDetectorState) (outbox : OutboxState) → is_outside (detector_after known.occupied (ticking now (begun known.client outbox)).client).client.stage ≡ false
    → DetectorStands known (detector_after known.occupied (ticking now (begun known.client outbox)).client)
unfolding detector_after
detector_ticks now known outbox = choose (is_outside after.stage) refl
  where
    after : ClientState
    after = (ticking now (begun known.client outbox)).client

    none : KnownDetectorState
    none = record { client = after; occupied = empty }

    some : KnownDetectorState
    some = record { client = after; occupied = known.occupied }

    choose : (b : Bool) → is_outside after.stage ≡ b → is_outside (if b then none else some).client.stage ≡ false → DetectorStands known (if b then none else some)
    choose true e inside = absurd (false≢true (sym inside ∙ e))
    choose false e inside = record { stage = (inside_ticks now known.client outbox e).same; occupied = refl }

-- ---- and of all of them

pub record SignalWas (signals : List KnownSignalState) (place : ℕ) (known : KnownSignalState) : Type 0 where
  pub was : KnownSignalState
  pub there : slice_get signals place ≡ Some was
  pub stands : is_outside known.client.stage ≡ false → SignalStands was known

pub record PointWas (points : List KnownPointState) (place : ℕ) (known : KnownPointState) : Type 0 where
  pub was : KnownPointState
  pub there : slice_get points place ≡ Some was
  pub stands : is_outside known.client.stage ≡ false → PointStands was known

pub record DetectorWas (detectors : List KnownDetectorState) (place : ℕ) (known : KnownDetectorState) : Type 0 where
  pub was : KnownDetectorState
  pub there : slice_get detectors place ≡ Some was
  pub stands : is_outside known.client.stage ≡ false → DetectorStands was known

-- An interlocking is as another, but for links that have fallen.
pub record BringsNothing (old new : IxlState) : Type 0 where
  pub routes : new.routes ≡ old.routes
  pub closed : new.closed ≡ old.closed
  pub signals : (place : ℕ) (known : KnownSignalState) → slice_get new.known_signals place ≡ Some known → SignalWas old.known_signals place known
  pub points : (place : ℕ) (known : KnownPointState) → slice_get new.known_points place ≡ Some known → PointWas old.known_points place known
  pub detectors : (place : ℕ) (known : KnownDetectorState) → slice_get new.detectors place ≡ Some known → DetectorWas old.detectors place known

nothing_at_first : (ixl : IxlState) → BringsNothing ixl ixl
nothing_at_first ixl = record {
  routes = refl;
  closed = refl;
  signals = λ place known e. record { was = known; there = e; stands = λ inside. record { stage = refl; aspect = refl; number = refl; up = λ up. up; confirmed = λ up. refl } };
  points = λ place known e. record { was = known; there = e; stands = λ inside. record { stage = refl; side = refl; moved = refl } };
  detectors = λ place known e. record { was = known; there = e; stands = λ inside. record { stage = refl; occupied = refl } };
}

module _ (old : IxlState) (now : ℕ) where
  abbrev Kept : StepSoFar → Type 0
  Kept part = BringsNothing old part.ixl

  signal_then : (place k : ℕ) (known later new : KnownSignalState) (signals : List KnownSignalState) → SignalWas old.known_signals place known → (is_outside new.client.stage ≡ false → SignalStands known new)
      → ((other : ℕ) (one : KnownSignalState) → slice_get signals other ≡ Some one → SignalWas old.known_signals other one) → ((k ≡ place) × (later ≡ new)) ⊎ ((k ≢ place) × (slice_get signals k ≡ Some later)) → SignalWas old.known_signals k later
  signal_then place k known later new signals first stands each (inr (differ, e)) = each k later e
  signal_then place k known later new signals first stands each (inl (same, is)) = subst (SignalWas old.known_signals k) (sym is) (record {
    was = first.was;
    there = ap (slice_get old.known_signals) same ∙ first.there;
    stands = λ inside. let last = stands inside in let before = first.stands (ap is_outside (sym last.stage) ∙ inside) in record {
      stage = last.stage ∙ before.stage;
      aspect = last.aspect ∙ before.aspect;
      number = last.number ∙ before.number;
      up = λ up. before.up (last.up up);
      confirmed = λ up. last.confirmed up ∙ before.confirmed (last.up up);
    };
  })

  point_then : (place k : ℕ) (known later new : KnownPointState) (points : List KnownPointState) → PointWas old.known_points place known → (is_outside new.client.stage ≡ false → PointStands known new)
      → ((other : ℕ) (one : KnownPointState) → slice_get points other ≡ Some one → PointWas old.known_points other one) → ((k ≡ place) × (later ≡ new)) ⊎ ((k ≢ place) × (slice_get points k ≡ Some later)) → PointWas old.known_points k later
  point_then place k known later new points first stands each (inr (differ, e)) = each k later e
  point_then place k known later new points first stands each (inl (same, is)) = subst (PointWas old.known_points k) (sym is) (record {
    was = first.was;
    there = ap (slice_get old.known_points) same ∙ first.there;
    stands = λ inside. let last = stands inside in let before = first.stands (ap is_outside (sym last.stage) ∙ inside) in record { stage = last.stage ∙ before.stage; side = last.side ∙ before.side; moved = last.moved ∙ before.moved };
  })

  detector_then : (place k : ℕ) (known later new : KnownDetectorState) (detectors : List KnownDetectorState) → DetectorWas old.detectors place known → (is_outside new.client.stage ≡ false → DetectorStands known new)
      → ((other : ℕ) (one : KnownDetectorState) → slice_get detectors other ≡ Some one → DetectorWas old.detectors other one) → ((k ≡ place) × (later ≡ new)) ⊎ ((k ≢ place) × (slice_get detectors k ≡ Some later)) → DetectorWas old.detectors k later
  detector_then place k known later new detectors first stands each (inr (differ, e)) = each k later e
  detector_then place k known later new detectors first stands each (inl (same, is)) = subst (DetectorWas old.detectors k) (sym is) (record {
    was = first.was;
    there = ap (slice_get old.detectors) same ∙ first.there;
    stands = λ inside. let last = stands inside in let before = first.stands (ap is_outside (sym last.stage) ∙ inside) in record { stage = last.stage ∙ before.stage; occupied = last.occupied ∙ before.occupied };
  })

  signal_kept : (place : ℕ) (part : StepSoFar) → Kept part → Kept (known_signal_ticking now place part)
  unfolding known_signal_ticking
  signal_kept place part is = one_keeps Kept (slice_get part.ixl.known_signals place) _ part (λ known e.
      let new : KnownSignalState = known_signal_after known.aspect known.number known.indicated (ticking now (begun known.client part.outbox)).client
      in record {
        routes = is.routes;
        closed = is.closed;
        signals = λ k later f. signal_then place k known later new part.ixl.known_signals (is.signals place known e) (signal_ticks now known part.outbox) is.signals (set_at place new part.ixl.known_signals k later f);
        points = is.points;
        detectors = is.detectors;
      }) is

  point_kept : (place : ℕ) (part : StepSoFar) → Kept part → Kept (known_point_ticking now place part)
  unfolding known_point_ticking
  point_kept place part is = one_keeps Kept (slice_get part.ixl.known_points place) _ part (λ known e.
      let new : KnownPointState = known_point_after known.side known.moved (ticking now (begun known.client part.outbox)).client
      in record {
        routes = is.routes;
        closed = is.closed;
        signals = is.signals;
        points = λ k later f. point_then place k known later new part.ixl.known_points (is.points place known e) (point_ticks now known part.outbox) is.points (set_at place new part.ixl.known_points k later f);
        detectors = is.detectors;
      }) is

  detector_kept : (place : ℕ) (part : StepSoFar) → Kept part → Kept (detector_ticking now place part)
  unfolding detector_ticking
  detector_kept place part is = one_keeps Kept (slice_get part.ixl.detectors place) _ part (λ known e.
      let new : KnownDetectorState = detector_after known.occupied (ticking now (begun known.client part.outbox)).client
      in record {
        routes = is.routes;
        closed = is.closed;
        signals = is.signals;
        points = is.points;
        detectors = λ k later f. detector_then place k known later new part.ixl.detectors (is.detectors place known e) (detector_ticks now known part.outbox) is.detectors (set_at place new part.ixl.detectors k later f);
      }) is

pub ticks_bring_nothing : (now : ℕ) (input : Input) (part : StepSoFar) → BringsNothing part.ixl (ticked now input part).ixl
unfolding ticked
ticks_bring_nothing now Tick part = over_keeps (Kept part.ixl now) (detector_ticking now) (detector_kept part.ixl now) (length part.ixl.detectors) _
    (over_keeps (Kept part.ixl now) (known_point_ticking now) (point_kept part.ixl now) (length part.ixl.known_points) _
    (over_keeps (Kept part.ixl now) (known_signal_ticking now) (signal_kept part.ixl now) (length part.ixl.known_signals) part (nothing_at_first part.ixl)))
ticks_bring_nothing now (Datagram bytes) part = nothing_at_first part.ixl
ticks_bring_nothing now (Commands command) part = nothing_at_first part.ixl

-- ---- what is known then was known before

module _ (table : Table) (old new : IxlState) (brings : BringsNothing old new) where
  -- a section whose detector was ready, and had told it so
  pub reported_before : (occupied : Bool) (section : ℕ) → ReportedBy table new section (λ detector place. (is_ready detector.client.stage ≡ true) × (contains detector.occupied place ≡ occupied))
      → ReportedBy table old section (λ detector place. (is_ready detector.client.stage ≡ true) × (contains detector.occupied place ≡ occupied))
  reported_before occupied section is =
      let detector = is.2.0
      in let was = brings.detectors is.0.0 detector is.2.1
      in let stands = was.stands (ready_inside detector.client.stage is.2.2.0)
      in (is.0, is.1, (was.was, was.there, (ap is_ready (sym stands.stage) ∙ is.2.2.0, sym (ap (λ (places : Places). contains places is.0.1) stands.occupied) ∙ is.2.2.1)))

  pub clear_before : (section : ℕ) → IsClear table new section → IsClear table old section
  clear_before = reported_before false

  pub all_clear_before : (sections : List ℕ) → AllClear table new sections → AllClear table old sections
  all_clear_before sections all = λ place other within. clear_before _ (all place other within)

  pub available_before : (point : ℕ) → IsAvailable new point → IsAvailable old point
  available_before point is =
      let was = brings.points point is.0 is.1
      in (was.was, was.there, ap is_available (sym (was.stands (available_inside is.0.client.stage is.2)).stage) ∙ is.2)

  pub known_before : (point : ℕ) (side : Side) → Known new point side → Known old point side
  known_before point side is =
      let was = brings.points point is.0 is.1
      in let stands = was.stands (available_inside is.0.client.stage is.2.0)
      in (was.was, was.there, (ap is_available (sym stands.stage) ∙ is.2.0, sym stands.side ∙ is.2.1))

  pub all_known_before : (needs : List Need) → AllKnown new needs → AllKnown old needs
  all_known_before needs all = λ place other within. known_before _ _ (all place other within)

  -- a point that isn't outside is known as before
  pub known_still : (point : ℕ) (side : Side) (known : KnownPointState) → slice_get new.known_points point ≡ Some known → is_outside known.client.stage ≡ false → Known old point side → Known new point side
  known_still point side known there inside is =
      let was = brings.points point known there
      in let stands = was.stands inside
      in let same : was.was ≡ is.0 = same_Some was.was is.0 (sym was.there ∙ is.1)
      in (known, there, (ap is_available (stands.stage ∙ ap (λ (k : KnownPointState). k.client.stage) same) ∙ is.2.0, stands.side ∙ (ap (λ (k : KnownPointState). k.side) same ∙ is.2.1)))

  -- and a section whose detector isn't
  pub clear_still : (section : ℕ) (reporter : ℕ × ℕ) (known : KnownDetectorState) → slice_get table.reporters section ≡ Some reporter → slice_get new.detectors reporter.0 ≡ Some known → is_outside known.client.stage ≡ false
      → IsClear table old section → IsClear table new section
  clear_still section reporter known reports there inside is =
      let was = brings.detectors reporter.0 known there
      in let stands = was.stands inside
      in let same_reporter : is.0 ≡ reporter = same_Some is.0 reporter (sym is.1 ∙ reports)
      in let same : was.was ≡ is.2.0 = same_Some was.was is.2.0 (sym was.there ∙ (ap (λ (r : ℕ × ℕ). slice_get old.detectors r.0) (sym same_reporter) ∙ is.2.1))
      in (
        reporter,
        reports,
        (
          known,
          there,
          (
            ap is_ready (stands.stage ∙ ap (λ (k : KnownDetectorState). k.client.stage) same) ∙ is.2.2.0,
            ap (λ (places : Places). contains places reporter.1) (stands.occupied ∙ ap (λ (k : KnownDetectorState). k.occupied) same) ∙ (ap (λ (r : ℕ × ℕ). contains is.2.0.occupied r.1) (sym same_reporter) ∙ is.2.2.1),
          ),
        ),
      )

  pub ready_before : (signal : ℕ) → IsSignalReady new signal → IsSignalReady old signal
  ready_before signal is =
      let was = brings.signals signal is.0 is.1
      in (was.was, was.there, ap is_ready (sym (was.stands (ready_inside is.0.client.stage is.2)).stage) ∙ is.2)

-- ---- a signal that is ready is up

pub outside_up : (known : ClientState) → is_outside known.stage ≡ not (is_up known.link.phase) → is_outside known.stage ≡ false → is_up known.link.phase ≡ true
outside_up known is inside = choose (is_up known.link.phase) refl
  where
    choose : (b : Bool) → is_up known.link.phase ≡ b → is_up known.link.phase ≡ true
    choose true e = e
    choose false e = absurd (false≢true (sym inside ∙ (is ∙ ap not e)))

pub up_inside : (known : ClientState) → is_outside known.stage ≡ not (is_up known.link.phase) → is_up known.link.phase ≡ true → is_outside known.stage ≡ false
up_inside known is up = is ∙ ap not up

-- the clients of an interlocking stand by their counts
pub clients_stepped : (site : Site) (table : Table) (input : Input) (world : WorldState) → EachClient (ClientStandsAt site) world.interlocking.ixl → EachClient (ClientStandsAt site) (interlocking_stepped site table input world).interlocking.ixl
unfolding interlocking_stepped
clients_stepped site table input world is = step_kept now (ClientStandsAt site) (ClockedAt site now) (clients_keep site now) table (key_of site) input (begun_with world.interlocking.ixl empty_outbox) is
  where
    now : ℕ
    now = reading_of world.interlocking.clock

pub clients_stand : (site : Site) (table : Table) (world : WorldState) → IsReached site table world → EachClient (ClientStandsAt site) world.interlocking.ixl
clients_stand site table = always_whole site table (EachClient (ClientStandsAt site)) (new_clients site table) (clients_stepped site table)

-- ---- known stop

-- stop was given last, and is taken; or nothing was given
abbrev HasTaken : KnownSignalState → Type 0
HasTaken known = (known.aspect ≡ None) ⊎ ((known.aspect ≡ Some Aspect.Stop) × (known.number ≤ confirmed_items known.client.link))

taken_before : (was known : KnownSignalState) → SignalStands was known → is_up known.client.link.phase ≡ true → HasTaken known → HasTaken was
taken_before was known stands up (inl none) = inl (sym stands.aspect ∙ none)
taken_before was known stands up (inr (given, confirmed)) =
    inr (sym stands.aspect ∙ given, subst (λ (n : ℕ). n ≤ confirmed_items was.client.link) stands.number (subst (λ (n : ℕ). known.number ≤ n) (stands.confirmed up) confirmed))

pub known_stop_before : (now reading : ℕ) (was known : KnownSignalState) → SignalStands was known → is_up known.client.link.phase ≡ true → IsKnownSignalAtStop reading known → IsKnownSignalAtStop now was
known_stop_before now reading was known stands up (inl (upper, taken)) = inl (stands.up up, taken_before was known stands up taken)
known_stop_before now reading was known stands up (inr (down, quiet)) = absurd (false≢true (sym down ∙ up))

-- where a signal's link is ready, known stop doesn't depend on the clock
pub stop_before : (site : Site) (old new : IxlState) → BringsNothing old new → EachClient (ClientStandsAt site) new → (now reading signal : ℕ) → IsSignalReady new signal → KnownStop reading new signal → KnownStop now old signal
stop_before site old new brings stand now reading signal ready stop =
    (was.was, was.there, known_stop_before now reading was.was stop.0 (was.stands (ready_inside stop.0.client.stage is_ready_so)) up stop.2)
  where
    was : SignalWas old.known_signals signal stop.0
    was = brings.signals signal stop.0 stop.1

    is_ready_so : is_ready stop.0.client.stage ≡ true
    is_ready_so = ap (λ (k : KnownSignalState). is_ready k.client.stage) (same_Some stop.0 ready.0 (sym stop.1 ∙ ready.1)) ∙ ready.2

    up : is_up stop.0.client.link.phase ≡ true
    up = outside_up stop.0.client (stand.signals signal stop.0 stop.1).stands.outside (ready_inside stop.0.client.stage is_ready_so)

-- ---- a point that is known at a side, and held there by a set route, is known there as long as its link is in its connection

-- ---- a point that awaits no report hears none

-- a client that awaits no report, in the middle of a step in which it heard nothing
record Idle (part : ClientSoFar) : Type 0 where
  completed : part.client.stage ≡ Stage.Completed
  point : part.client.peer.protocol ≡ Protocol.Point
  none : part.heard ≡ []

module _ (now : ℕ) (item : List ℕ) (part : ClientSoFar) (point : part.client.peer.protocol ≡ Protocol.Point) where
  abbrev Shut : ClientSoFar → Type 0
  Shut done = is_open done.client.link.phase ≡ false

  closes : Shut (calling now (Closes Reason.State) part)
  unfolding calling
  closes = close_closes now Reason.State part.client.link

  initial_shuts : (told : Initialisation) → Shut (following now item (initial_meaning part.client.peer told Stage.Completed) part)
  unfolding following
  initial_shuts (Initialisation.VersionCheck version) = closes
  initial_shuts (Initialisation.VersionAnswer agreement version) = closes
  initial_shuts Initialisation.InitialisationRequest = closes
  initial_shuts Initialisation.StartInitialisation = closes
  initial_shuts Initialisation.InitialisationCompleted = closes

  no_report : (state : ObjectState) → (reports_changes part.client.peer.protocol && is_in_version part.client.peer.version state) ≡ true → ⊥
  no_report state e = false≢true (ap (λ (p : Protocol). reports_changes p && is_in_version part.client.peer.version state) (sym point) ∙ e)

  report_shuts : (place : Option ℕ) (state : Option ObjectState) → Shut (following now item (report_meaning part.client.peer place state Stage.Completed) part)
  unfolding following
  report_shuts None state = closes
  report_shuts (Some place) None = closes
  report_shuts (Some place) (Some state) = either (λ what. Shut (following now item what part)) (reports_changes part.client.peer.protocol && is_in_version part.client.peer.version state) _ _ (λ e. absurd (no_report state e)) closes

  told_shuts : (sender : List ℕ) (told : Message) → Shut (following now item (meaning_of part.client.peer sender told Stage.Completed) part)
  unfolding following
  told_shuts sender (Message.Initialisation protocol told) = either (λ what. Shut (following now item what part)) (bytes_eq sender part.client.peer.name) _ _ (λ e. initial_shuts told) closes
  told_shuts sender (Message.Signal told) = report_shuts (place_of part.client.peer sender) (state_in (Message.Signal told))
  told_shuts sender (Message.Point told) = report_shuts (place_of part.client.peer sender) (state_in (Message.Point told))
  told_shuts sender (Message.Detection told) = report_shuts (place_of part.client.peer sender) (state_in (Message.Detection told))

  read_shuts : (what : Result Telegram SciFault) → Shut (following now item (meaning_of_item part.client.peer Stage.Completed what) part)
  unfolding following meaning
  read_shuts (Err fault) = closes
  read_shuts (Ok telegram) = either (λ what. Shut (following now item what part)) (is_for_client part.client.peer telegram) _ _ (λ e. told_shuts telegram.sender telegram.message) closes

-- it stays so, or its link has closed
acts_idle : (now : ℕ) (item : List ℕ) (part : ClientSoFar) → Idle part → is_open (acting now item part).client.link.phase ≡ false
unfolding acting
acts_idle now item part idle = subst (λ (s : Stage). is_open (following now item (meaning_of_item part.client.peer s (reading item)) part).client.link.phase ≡ false) (sym idle.completed) (read_shuts now item part idle.point (reading item))

abbrev IdleWhereOpen : ClientSoFar → Type 0
IdleWhereOpen part = is_open part.client.link.phase ≡ true → Idle part

all_act_idle : (now : ℕ) (items : List (List ℕ)) (part : ClientSoFar) → IdleWhereOpen part → IdleWhereOpen (acting_all now items part)
unfolding acting_all
all_act_idle now [] part idle = idle
all_act_idle now (item ∷ others) part idle = choose (is_open part.client.link.phase) refl (all_act_idle now others (acting now item part))
  where
    choose : (b : Bool) → is_open part.client.link.phase ≡ b → (IdleWhereOpen (acting now item part) → IdleWhereOpen (acting_all now others (acting now item part)))
        → IdleWhereOpen (if b then acting_all now others (acting now item part) else part)
    choose true e more = more (λ opened. absurd (false≢true (sym (acts_idle now item part (idle e)) ∙ opened)))
    choose false e more = idle

rises_idle : (now : ℕ) (part : ClientSoFar) → part.client.stage ≡ Stage.Completed → rising now part ≡ part
unfolding rising
rises_idle now part completed = rw completed refl

received_idle : (now : ℕ) (bytes : List ℕ) (client : ClientState) (outbox : OutboxState) → client.stage ≡ Stage.Completed → client.peer.protocol ≡ Protocol.Point → Idle (calling now (Receives bytes) (begun client outbox))
unfolding calling
received_idle now bytes client outbox completed point = record { completed = completed; point = point; none = refl }

-- what a point's client heard in a step after which it isn't outside
pub record HearsNothing (done : ClientSoFar) : Type 0 where
  pub completed : done.client.stage ≡ Stage.Completed
  pub none : done.heard ≡ []

pub point_hears : (now : ℕ) (bytes : List ℕ) (client : ClientState) (outbox : OutboxState) → client.stage ≡ Stage.Completed → client.peer.protocol ≡ Protocol.Point
    → is_outside (hearing now bytes (begun client outbox)).client.stage ≡ false → HearsNothing (hearing now bytes (begun client outbox))
unfolding hearing fallen
point_hears now bytes client outbox completed point = choose (is_up acted.client.link.phase) refl
  where
    received : ClientSoFar
    received = calling now (Receives bytes) (begun client outbox)

    acted : ClientSoFar
    acted = acting_all now (receiving now bytes client.link).items (rising now received)

    idle : IdleWhereOpen acted
    idle = all_act_idle now (receiving now bytes client.link).items (rising now received)
        (λ opened. subst Idle (sym (rises_idle now received (received_idle now bytes client outbox completed point).completed)) (received_idle now bytes client outbox completed point))

    late : ClientSoFar
    late = record acted { client = record acted.client { stage = Stage.Outside } }

    choose : (b : Bool) → is_up acted.client.link.phase ≡ b → is_outside (if b then acted.client else late.client).stage ≡ false → HearsNothing (record acted { client = if b then acted.client else late.client })
    choose true e inside = let so = idle (up_open acted.client.link.phase e) in record { completed = so.completed; none = so.none }
    choose false e inside = absurd (false≢true (sym inside))

-- ---- the point by which a route goes on

abbrev pub KnownInside : ℕ → Side → IxlState → Type 0
KnownInside point side ixl = (known : KnownPointState) → slice_get ixl.known_points point ≡ Some known → is_outside known.client.stage ≡ false → (is_available known.client.stage ≡ true) × (known.side ≡ Some side)

pub known_inside : (point : ℕ) (side : Side) (ixl : IxlState) → Known ixl point side → KnownInside point side ixl
known_inside point side ixl is known e inside =
    let same : is.0 ≡ known = same_Some is.0 known (sym is.1 ∙ e)
    in subst (λ (k : KnownPointState). (is_available k.client.stage ≡ true) × (k.side ≡ Some side)) same is.2

pub is_completed : (s : Stage) → is_available s ≡ true → s ≡ Stage.Completed
is_completed Stage.Outside e = absurd (false≢true e)
is_completed Stage.AwaitsAnswer e = absurd (false≢true e)
is_completed Stage.AwaitsStart e = absurd (false≢true e)
is_completed (Stage.AwaitsStatus left) e = absurd (false≢true e)
is_completed Stage.Completed e = refl
is_completed Stage.AwaitsReport e = absurd (false≢true e)

-- a point whose client isn't outside keeps its side
after_inside : (side : Option Side) (moved : Places) (client : ClientState) → is_outside (known_point_after side moved client).client.stage ≡ false → ((known_point_after side moved client).client ≡ client) × ((known_point_after side moved client).side ≡ side)
unfolding known_point_after
after_inside side moved client = choose (is_outside client.stage) refl
  where
    none : KnownPointState
    none = record { client = client; side = None; moved = empty }

    some : KnownPointState
    some = record { client = client; side = side; moved = moved }

    choose : (b : Bool) → is_outside client.stage ≡ b → is_outside (if b then none else some).client.stage ≡ false → ((if b then none else some).client ≡ client) × ((if b then none else some).side ≡ side)
    choose true e inside = absurd (false≢true (sym inside ∙ e))
    choose false e inside = (refl, refl)

pub still_clocked : (now : ℕ) (client : ClientState) → is_up (settled now client.link).phase ≡ true → (clocked now client).stage ≡ client.stage
unfolding clocked fallen
still_clocked now client up = rw up refl

pub clocked_side : (now : ℕ) (known : KnownPointState) → is_up (settled now known.client.link).phase ≡ true → is_outside known.client.stage ≡ false
    → ((clocked_known_point now known).client.stage ≡ known.client.stage) × ((clocked_known_point now known).side ≡ known.side)
unfolding known_point_after
clocked_side now known up inside = choose (is_outside after.stage) refl
  where
    after : ClientState
    after = clocked now known.client

    same : after.stage ≡ known.client.stage
    same = still_clocked now known.client up

    none : KnownPointState
    none = record { client = after; side = None; moved = empty }

    some : KnownPointState
    some = record { client = after; side = known.side; moved = known.moved }

    choose : (b : Bool) → is_outside after.stage ≡ b → ((if b then none else some).client.stage ≡ known.client.stage) × ((if b then none else some).side ≡ known.side)
    choose true e = absurd (false≢true (sym inside ∙ (ap is_outside (sym same) ∙ e)))
    choose false e = (same, refl)

known_clocked : (now : ℕ) (ixl : IxlState) (point : ℕ) (side : Side) → Known ixl point side → At ixl.known_points point (λ known. is_up (settled now known.client.link).phase ≡ true) → Known (all_clocked now ixl) point side
unfolding all_clocked
known_clocked now ixl point side is up = (
  clocked_known_point now is.0,
  mapped (clocked_known_point now) ixl.known_points point is.0 is.1,
  (ap is_available still.0 ∙ is.2.0, still.1 ∙ is.2.1),
)
  where
    still : ((clocked_known_point now is.0).client.stage ≡ is.0.client.stage) × ((clocked_known_point now is.0).side ≡ is.0.side)
    still = clocked_side now is.0 (ap (λ (k : KnownPointState). is_up (settled now k.client.link).phase) (same_Some is.0 up.0 (sym is.1 ∙ up.1)) ∙ up.2) (available_inside is.0.client.stage is.2.0)

-- ---- the clients of points

abbrev SpeaksPoint : IxlNode → ClientState → Type 0
SpeaksPoint (Point place) client = client.peer.protocol ≡ Protocol.Point
SpeaksPoint _ client = Unit {0}

same_protocol : (node : IxlNode) (old new : ClientState) → new.peer ≡ old.peer → SpeaksPoint node old → SpeaksPoint node new
same_protocol (Signal place) old new same is = tt
same_protocol (Point place) old new same is = ap (λ (peer : PeerState). peer.protocol) same ∙ is
same_protocol (Detector place) old new same is = tt

points_speak : (now : ℕ) → ClientsKeep now SpeaksPoint SpeaksPoint
points_speak now = record {
  clock = λ node client is. same_protocol node client (clocked now client) (clocked_peer now client) is;
  weaker = λ node client is. is;
  hears = λ node bytes part is. same_protocol node part.client (hearing now bytes part).client (hearing_peer now bytes part) is;
  commands = λ node command part is. same_protocol node part.client (commanding now command part).client (commanding_peer now command part) is;
  ticks = λ node part is. same_protocol node part.client (ticking now part).client (ticking_peer now part) is;
}

new_speak : (site : Site) (table : Table) (begins : Beginning) → EachClient SpeaksPoint (new_ixl site table begins)
unfolding new_ixl new_client
new_speak site table begins = record {
  signals = λ place known e. tt;
  points = λ place known e. let found = mapped_at (new_known_point_of site begins) site.points place known e in ap (λ (k : KnownPointState). k.client.peer.protocol) found.2;
  detectors = λ place known e. tt;
}

speak_stepped : (site : Site) (table : Table) (input : Input) (world : WorldState) → EachClient SpeaksPoint world.interlocking.ixl → EachClient SpeaksPoint (interlocking_stepped site table input world).interlocking.ixl
unfolding interlocking_stepped
speak_stepped site table input world is = step_kept now SpeaksPoint SpeaksPoint (points_speak now) table (key_of site) input (begun_with world.interlocking.ixl empty_outbox) is
  where
    now : ℕ
    now = reading_of world.interlocking.clock

pub always_speak : (site : Site) (table : Table) (world : WorldState) → IsReached site table world → EachClient SpeaksPoint world.interlocking.ixl
always_speak site table = always_whole site table (EachClient SpeaksPoint) (new_speak site table) (speak_stepped site table)

pub point_clocked : (now : ℕ) (ixl : IxlState) → EachClient SpeaksPoint ixl → (place : ℕ) (known : KnownPointState) → slice_get (all_clocked now ixl).known_points place ≡ Some known → known.client.peer.protocol ≡ Protocol.Point
unfolding all_clocked
point_clocked now ixl speak place known e =
    let found = mapped_at (clocked_known_point now) ixl.known_points place known e
    in ap (λ (k : KnownPointState). k.client.peer.protocol) found.2 ∙ (ap (λ (c : ClientState). c.peer.protocol) (point_client found.0.side found.0.moved (clocked now found.0.client))
    ∙ (ap (λ (peer : PeerState). peer.protocol) (clocked_peer now found.0.client) ∙ speak.points place found.0 found.1))

-- ---- what is heard

module _ (now : ℕ) (table : Table) (point : ℕ) (side : Side) where
  abbrev Inside : StepSoFar → Type 0
  Inside part = KnownInside point side part.ixl

  looking_inside : (look : ℕ × Bool) (part : StepSoFar) → Inside part → Inside (looking table look part)
  unfolding looking_by
  looking_inside look part is = over_keeps Inside (looking_by look.0 look.1 table) (λ number q all. route_keeps Inside table number _ q (λ row one there here. where_keeps Inside (was_authorised one.phase) q _ (λ due. all) all) all) (count table) part is

  hearing_inside : (bytes : List ℕ) (node : IxlNode) (part : StepSoFar) → ((place : ℕ) (known : KnownPointState) → slice_get part.ixl.known_points place ≡ Some known → known.client.peer.protocol ≡ Protocol.Point) → Known part.ixl point side
      → Inside (node_hearing now table bytes node part)
  unfolding node_hearing known_signal_hearing known_point_hearing detector_hearing
  hearing_inside bytes (Signal place) part speak is = one_keeps Inside (slice_get part.ixl.known_signals place) _ part (λ known e. known_inside point side part.ixl is) (known_inside point side part.ixl is)
  hearing_inside bytes (Point place) part speak is = one_keeps Inside (slice_get part.ixl.known_points place) _ part (λ known e. λ later f inside.
      let done = hearing now bytes (begun known.client part.outbox)
      in heard_here known done later place e inside (λ still. point_hears now bytes known.client part.outbox (completed_there known place e still.0) (speak place known e) still.1)
      (set_at place (known_point_after (side_heard done.heard known.side) known.moved done.client) part.ixl.known_points point later f)) (known_inside point side part.ixl is)
    where
      is_here : (known : KnownPointState) (place : ℕ) → slice_get part.ixl.known_points place ≡ Some known → point ≡ place → is.0 ≡ known
      is_here known place e same = same_Some is.0 known (sym is.1 ∙ (ap (slice_get part.ixl.known_points) same ∙ e))

      completed_there : (known : KnownPointState) (place : ℕ) → slice_get part.ixl.known_points place ≡ Some known → point ≡ place → known.client.stage ≡ Stage.Completed
      completed_there known place e same = is_completed known.client.stage (ap (λ (k : KnownPointState). is_available k.client.stage) (sym (is_here known place e same)) ∙ is.2.0)

      heard_here : (known : KnownPointState) (done : ClientSoFar) (later : KnownPointState) (place : ℕ) → slice_get part.ixl.known_points place ≡ Some known → is_outside later.client.stage ≡ false
          → ((point ≡ place) × (is_outside done.client.stage ≡ false) → HearsNothing done)
          → ((point ≡ place) × (later ≡ known_point_after (side_heard done.heard known.side) known.moved done.client)) ⊎ ((point ≢ place) × (slice_get part.ixl.known_points point ≡ Some later))
          → (is_available later.client.stage ≡ true) × (later.side ≡ Some side)
      heard_here known done later place e inside hears (inr (differ, f)) = known_inside point side part.ixl is later f inside
      heard_here known done later place e inside hears (inl (same, so)) =
          let kept = after_inside (side_heard done.heard known.side) known.moved done.client (ap (λ (k : KnownPointState). is_outside k.client.stage) (sym so) ∙ inside)
          in let nothing = hears (same, ap (λ (c : ClientState). is_outside c.stage) (sym kept.0) ∙ (ap (λ (k : KnownPointState). is_outside k.client.stage) (sym so) ∙ inside))
          in (
            ap (λ (k : KnownPointState). is_available k.client.stage) so ∙ (ap (λ (c : ClientState). is_available c.stage) kept.0 ∙ ap is_available nothing.completed),
            ap (λ (k : KnownPointState). k.side) so ∙ (kept.1 ∙ (ap (λ (heard : List Indication). side_heard heard known.side) nothing.none ∙ (ap (λ (k : KnownPointState). k.side) (sym (is_here known place e same)) ∙ is.2.1))),
          )
  hearing_inside bytes (Detector place) part speak is = one_keeps Inside (slice_get table.detectors place) _ part (λ sections f. one_keeps Inside (slice_get part.ixl.detectors place) _ part (λ known e.
      let done = hearing now bytes (begun known.client part.outbox)
      in along_keeps Inside (looking table) looking_inside (looks sections known done.heard done.client)
      (with_detector place (detector_after (occupied_heard done.heard known.occupied) done.client) (noted (Detector place) done part)) (known_inside point side part.ixl is)) (known_inside point side part.ixl is)) (known_inside point side part.ixl is)

  obeyed_inside : (command : Command) (ixl : IxlState) → KnownInside point side ixl → KnownInside point side (obeyed now command ixl)
  unfolding obeyed
  obeyed_inside (Command.Request route) ixl is known e inside =
      let found = mapped_at (unmoved_for route.0) ixl.known_points point known e
      in let before = is found.0 found.1 (ap (λ (k : KnownPointState). is_outside k.client.stage) (sym found.2) ∙ inside)
      in (ap (λ (k : KnownPointState). is_available k.client.stage) found.2 ∙ before.0, ap (λ (k : KnownPointState). k.side) found.2 ∙ before.1)
  obeyed_inside (Command.Cancel route) ixl is known e inside = is known e inside
  obeyed_inside Command.Resume ixl is known e inside = is known e inside
  obeyed_inside (Command.Release route) ixl is known e inside = is known e inside
  obeyed_inside (Command.Move point side) ixl is known e inside = is known e inside
  obeyed_inside (Command.Close named) ixl is known e inside = is known e inside
  obeyed_inside (Command.Open named) ixl is known e inside = is known e inside

  commanded_inside : (cause : Option Refusal) (command : Command) (ixl : IxlState) → KnownInside point side ixl → KnownInside point side (commanded_by now cause command ixl)
  commanded_inside None command ixl is = obeyed_inside command ixl is
  commanded_inside (Some cause) command ixl is = is

  heard_at : (bytes : List ℕ) (found : Option IxlNode) (part : StepSoFar) → ((place : ℕ) (known : KnownPointState) → slice_get part.ixl.known_points place ≡ Some known → known.client.peer.protocol ≡ Protocol.Point) → Known part.ixl point side
      → Inside (with_one found (node_hearing now table bytes) part)
  heard_at bytes None part speak is = known_inside point side part.ixl is
  heard_at bytes (Some node) part speak is = hearing_inside bytes node part speak is

  -- another point is moved
  other_inside : (other : PointId) (to : Side) (part : StepSoFar) → (other.0 ≡ point → ⊥) → Inside part → Inside (giving_move now other.0 to part)
  unfolding giving_move
  other_inside other to part differ is = one_keeps Inside (slice_get part.ixl.known_points other.0) _ part
      (λ known e one there inside. is one (sym (changed_elsewhere _ other.0 point part.ixl.known_points (λ same. differ (sym same))) ∙ there) inside) is

  -- unless the point itself is moved by command
  pub given_inside : (key : Key) (input : Input) (part : StepSoFar) → ((moved : PointId) (to : Side) → input ≡ Commands (Command.Move moved to) → moved.0 ≡ point → refusal now table (Command.Move moved to) part.ixl ≡ None → ⊥)
      → ((place : ℕ) (known : KnownPointState) → slice_get part.ixl.known_points place ≡ Some known → known.client.peer.protocol ≡ Protocol.Point) → Known part.ixl point side
      → Inside (given now table key input part)
  unfolding given
  given_inside key Tick part unmoved speak is = known_inside point side part.ixl is
  given_inside key (Datagram bytes) part unmoved speak is = heard_at bytes (addressed (pdu_reading key bytes) part.ixl) part speak is
  given_inside key (Commands command) part unmoved speak is =
      let cause = refusal now table command part.ixl
      in let commanded = commanded_inside cause command part.ixl (known_inside point side part.ixl is)
      in moved_where Inside now cause command (record part { ixl = commanded_by now cause command part.ixl }) commanded
      (λ moved to same none. other_inside moved to (record part { ixl = commanded_by now cause command part.ixl })
      (λ here. unmoved moved to (ap Commands same) here (subst (λ (c : Command). refusal now table c part.ixl ≡ None) same none)) commanded)

-- No command that comes moves this point.
abbrev pub NotMoved : Table → Input → WorldState → ℕ → Type 0
NotMoved table input world point = (moved : PointId) (to : Side) → input ≡ Commands (Command.Move moved to) → moved.0 ≡ point
    → refusal (reading_of world.interlocking.clock) table (Command.Move moved to) (all_clocked (reading_of world.interlocking.clock) world.interlocking.ixl) ≡ None → ⊥

-- After the clock and the input of a step.
pub known_heard : (site : Site) (table : Table) (input : Input) (world : WorldState) (point : ℕ) (side : Side) → NotMoved table input world point → IsReached site table world → Known world.interlocking.ixl point side → IsUpAtClock world point
    → KnownInside point side (known_in_step site table input world)
known_heard site table input world point side unmoved reached is up = given_inside now table point side (key_of site) input (begun_with (all_clocked now world.interlocking.ixl) empty_outbox)
    unmoved (point_clocked now world.interlocking.ixl (always_speak site table world reached)) (known_clocked now world.interlocking.ixl point side is up)
  where
    now : ℕ
    now = reading_of world.interlocking.clock

pub known_in : (site : Site) (table : Table) (input : Input) (world : WorldState) (point : ℕ) (side : Side) → NotMoved table input world point → IsReached site table world → Known world.interlocking.ixl point side → IsUpAtClock world point
    → IsInside (known_in_step site table input world) point → Known (known_in_step site table input world) point side
known_in site table input world point side unmoved reached is up inside = (inside.0, inside.1, known_heard site table input world point side unmoved reached is up inside.0 inside.1 inside.2)
