-- A set route keeps its course over an event, where its links are up and its sections clear; and it has its aspect where all is known that this wants.
use Rattle.simulator_recovery.proofs.Words.Basics.{◌≡◌, ◌≢◌, ◌⊎◌, inl, inr, ℕ, Bool, true, false, if◌then◌else◌, List, Option, Some, None, slice_get, refl, sym, ap, subst, ◌∙◌, same_Some, ◌<◌, ◌==◌, not, get_or, All, Contains, All-contains, Contains-get_or}
use Rattle.simulator_recovery.proofs.Words.Links.{settled, reading_of, is_up, reading, Key, LinkState}
use Rattle.simulator_recovery.proofs.Words.Controllers.{Aspect, Side}
use Rattle.simulator_recovery.proofs.Words.Interlockings.{ClientState, is_outside, is_ready, begun, clocked, commanding, fallen, hearing, ticking, Stage, commanded_by, obeyed, refusal, At, IsSignalReady, authorised, come_to, count, is_move_due, is_proceed_due, is_stop_due, moving_one, proceeding, ruled, stopped, withdrawing, KnownSignalState, changed, Commands, Datagram, Input, Tick, addressed, all_clocked, clocked_known_signal, detector_hearing, detector_ticking, given, known_point_hearing, known_point_ticking, known_signal_hearing, known_signal_ticking, looking, looks, node_hearing, occupied_heard, stepped, ticked, watching, Detector, Node as IxlNode, Point, Signal, StepSoFar, begun_with, detector_after, empty_outbox, giving_aspect, giving_move, known_signal_after, noted, with_detector, with_one, with_route, Need, Row, Table, is_signal_ready, Command, Refusal, Phase, IsTableOf, AllClear, AllKnown, IsHeldAt, Known, moved, IxlState, KnownPointState, RouteState, over, freed_sections, is_set}
use Rattle.simulator_recovery.proofs.Words.Stations.{Site, interlocking_stepped, key_of, WorldState, Event, happens, IsReached}
use Rattle.simulator_recovery.proofs.Words.Recovery.{IsSignalUp, ClientStandsAt, EachClient, HasAspect, HasPointsUp, IsClearFor, IsInside, IsUpheld, KeepsSetting, Waits, AreLinksUp, IsOnCourse, LawsBelow}
use Rattle.simulator_spec.specs.ixl_client.declared.command.Command.{Command as ClientCommand}
use Rattle.simulator_recovery.proofs.Lemmas.Ground.DueShapes.{along_keeps, looking_turns, one_keeps, over_keeps, route_keeps, ticked_keeps, turned_keeps, watching_turns, where_keeps}
use Rattle.simulator_recovery.proofs.Lemmas.RoutesComing.DueKnown.{inside_ticks, clients_stand, clients_stepped, known_still, ticks_bring_nothing}
use Rattle.simulator_recovery.proofs.Lemmas.Ground.IxlClients.{mapped_at, signal_client}
use Rattle.simulator_recovery.proofs.Lemmas.Ground.IxlSoFar.{set_at, test_of}
use Rattle.simulator_recovery.proofs.Lemmas.RoutesComing.NothingDueMoves.{move_leaves}
use Rattle.simulator_recovery.proofs.Lemmas.Ground.SignalParts.{hears, is_ready_there}
use Rattle.simulator_recovery.proofs.Lemmas.Lamps.StopsGiven.{given_stays, goes_on_stays, changed_elsewhere, changed_here, differs, is_equal}
use Rattle.simulator_recovery.proofs.Lemmas.Ground.ClientBehind.{available_ready}
use Rattle.simulator_recovery.proofs.Lemmas.Ground.IxlAlways.{event_then}
use Rattle.simulator_recovery.proofs.Lemmas.RoutesComing.HeldNeeds.{held_known}
use Rattle.simulator_recovery.proofs.Lemmas.RoutesComing.DueRounds.{clear_goes_on}
use Rattle.simulator_recovery.proofs.Lemmas.RoutesComing.DueStops.{known_proceeds}
use Rattle.simulator_recovery.proofs.Lemmas.Ground.DueTests.{known_then}
use Rattle.simulator_recovery.proofs.Lemmas.RoutesComing.DueCourse.{LeavesSetting, at_changed, leaves_of, not_anew, seen_held, until_moved, waits_held, waits_keep}
use Rattle.simulator_recovery.proofs.Lemmas.Ground.LinkCounts.{settled_open}
use Rattle.simulator_recovery.proofs.Lemmas.Talk.ClientLinks.{up_open}
use Rattle.simulator_recovery.proofs.Lemmas.RoutesComing.NothingDueProceeds.{AspectLeaves, aspect_leaves}
use Rattle.simulator_recovery.proofs.Lemmas.RoutesComing.NothingDueStops.{holds_each}
use Rattle.simulator_recovery.proofs.Lemmas.Ground.MovedAtOnce.{moved_keeps}

-- ---- a signal that is ready is ready after an event, too, where its link is up

-- a client whose link is up by the clock is as it was
pub clocked_up : (now : ℕ) (client : ClientState) → is_up (settled now client.link).phase ≡ true → (clocked now client).stage ≡ client.stage
unfolding clocked fallen
clocked_up now client up = ap (λ (b : Bool). (if b then late else record late { stage = Stage.Outside }).stage) up
  where
    late : ClientState
    late = record client { link = settled now client.link }

-- ---- a signal

-- It is ready, unless its link has fallen.
abbrev pub KeepsReady : KnownSignalState → Type 0
KeepsReady known = is_outside known.client.stage ≡ false → is_ready known.client.stage ≡ true

after_keeps : (aspect : Option Aspect) (number : ℕ) (indicated : Option Aspect) (client : ClientState) → (is_outside client.stage ≡ false → is_ready client.stage ≡ true) → KeepsReady (known_signal_after aspect number indicated client)
after_keeps aspect number indicated client so = subst (λ (c : ClientState). is_outside c.stage ≡ false → is_ready c.stage ≡ true) (sym (signal_client aspect number indicated client)) so

-- ---- a step

module _ (now : ℕ) (table : Table) (signal : ℕ) where
  abbrev Holds : StepSoFar → Type 0
  Holds part = (known : KnownSignalState) → slice_get part.ixl.known_signals signal ≡ Some known → KeepsReady known

  abbrev HoldsNow : StepSoFar → Type 0
  HoldsNow part = (known : KnownSignalState) → slice_get part.ixl.known_signals signal ≡ Some known → is_ready known.client.stage ≡ true

  now_holds : (part : StepSoFar) → HoldsNow part → Holds part
  now_holds part is known e inside = is known e

  set_holds : (place : ℕ) (new : KnownSignalState) (part : StepSoFar) → (place ≡ signal → KeepsReady new) → Holds part → (known : KnownSignalState) → slice_get (changed (λ old. new) place part.ixl.known_signals) signal ≡ Some known → KeepsReady known
  set_holds place new part so is known e = choose (set_at place new part.ixl.known_signals signal known e)
    where
      choose : ((signal ≡ place) × (known ≡ new)) ⊎ ((signal ≢ place) × (slice_get part.ixl.known_signals signal ≡ Some known)) → KeepsReady known
      choose (inl (same, e)) = subst KeepsReady (sym e) (so (sym same))
      choose (inr (differ, f)) = is known f

  -- ---- the clock

  clocked_holds : (part : StepSoFar) → IsSignalReady part.ixl signal → (At part.ixl.known_signals signal (λ known. is_up (settled now known.client.link).phase ≡ true)) → HoldsNow (record part { ixl = all_clocked now part.ixl })
  unfolding all_clocked
  clocked_holds part is up known e =
      let was = mapped_at (clocked_known_signal now) part.ixl.known_signals signal known e
      in let same = same_Some was.0 is.0 (sym was.1 ∙ is.1)
      in let also = same_Some was.0 up.0 (sym was.1 ∙ up.1)
      in ap (λ (k : KnownSignalState). is_ready k.client.stage) was.2
      ∙ (ap (λ (c : ClientState). is_ready c.stage) (signal_client was.0.aspect was.0.number was.0.indicated (clocked now was.0.client))
      ∙ (ap is_ready (clocked_up now was.0.client (ap (λ (k : KnownSignalState). is_up (settled now k.client.link).phase) also ∙ up.2)) ∙ (ap (λ (k : KnownSignalState). is_ready k.client.stage) same ∙ is.2)))

  -- ---- what is heard

  hearing_holds : (bytes : List ℕ) (node : IxlNode) (part : StepSoFar) → HoldsNow part → Holds (node_hearing now table bytes node part)
  unfolding node_hearing known_signal_hearing known_point_hearing detector_hearing
  hearing_holds bytes (Signal place) part is = one_keeps Holds (slice_get part.ixl.known_signals place) _ part (λ known e. set_holds place _ part (λ same.
      after_keeps known.aspect known.number _ (hearing now bytes (begun known.client part.outbox)).client
      (goes_on_stays now known.client (hearing now bytes (begun known.client part.outbox)).client (hears bytes part.outbox refl) (is known (ap (slice_get part.ixl.known_signals) (sym same) ∙ e)))) (now_holds part is)) (now_holds part is)
  hearing_holds bytes (Point place) part is = one_keeps Holds (slice_get part.ixl.known_points place) _ part (λ known e. now_holds part is) (now_holds part is)
  hearing_holds bytes (Detector place) part is = one_keeps Holds (slice_get table.detectors place) _ part (λ sections f. one_keeps Holds (slice_get part.ixl.detectors place) _ part (λ known e.
      let done = hearing now bytes (begun known.client part.outbox)
      in along_keeps Holds (looking table) (looking_turns Holds now table (λ number change part is. is)) (looks sections known done.heard done.client)
      (with_detector place (detector_after (occupied_heard done.heard known.occupied) done.client) (noted (Detector place) done part)) (now_holds part is)) (now_holds part is)) (now_holds part is)

  heard_at : (bytes : List ℕ) (found : Option IxlNode) (part : StepSoFar) → HoldsNow part → Holds (with_one found (node_hearing now table bytes) part)
  heard_at bytes None part is = now_holds part is
  heard_at bytes (Some node) part is = hearing_holds bytes node part is

  obeyed_holds : (command : Command) (part : StepSoFar) → HoldsNow part → Holds (record part { ixl = obeyed now command part.ixl })
  unfolding obeyed
  obeyed_holds (Command.Request route) part is = now_holds part is
  obeyed_holds (Command.Cancel route) part is = now_holds part is
  obeyed_holds Command.Resume part is = now_holds part is
  obeyed_holds (Command.Release route) part is = now_holds part is
  obeyed_holds (Command.Move point side) part is = now_holds part is
  obeyed_holds (Command.Close named) part is = now_holds part is
  obeyed_holds (Command.Open named) part is = now_holds part is

  commanded_holds : (cause : Option Refusal) (command : Command) (part : StepSoFar) → HoldsNow part → Holds (record part { ixl = commanded_by now cause command part.ixl })
  commanded_holds None command part is = obeyed_holds command part is
  commanded_holds (Some cause) command part is = now_holds part is

  given_holds : (key : Key) (input : Input) (part : StepSoFar) → HoldsNow part → Holds (given now table key input part)
  unfolding given giving_move
  given_holds key Tick part is = now_holds part is
  given_holds key (Datagram bytes) part is = heard_at bytes (addressed (reading key bytes) part.ixl) part is
  given_holds key (Commands command) part is =
      moved_keeps Holds now table (λ point side q available all. one_keeps Holds (slice_get q.ixl.known_points point) _ q (λ known e. all) all)
      (refusal now table command part.ixl) command part refl (commanded_holds (refusal now table command part.ixl) command part is)

  -- ---- the rules

  -- an aspect is given to a signal that is ready
  aspect_holds : (place : ℕ) (aspect : Aspect) (part : StepSoFar) → is_signal_ready part.ixl place ≡ true → Holds part → Holds (giving_aspect now place aspect part)
  unfolding giving_aspect
  aspect_holds place aspect part ready is = one_keeps Holds (slice_get part.ixl.known_signals place) _ part (λ known e. set_holds place _ part (λ same.
      after_keeps (Some aspect) _ known.indicated (commanding now (ClientCommand.Indicate aspect) (begun known.client part.outbox)).client
      (given_stays now aspect known.client (commanding now (ClientCommand.Indicate aspect) (begun known.client part.outbox)).client
      (record { ready = test_of part.ixl.known_signals place (λ k. is_ready k.client.stage) known e ready; outbox = part.outbox; is = refl }))) is) is

  move_holds : (point : ℕ) (side : Side) (part : StepSoFar) → Holds part → Holds (giving_move now point side part)
  move_holds point side part is known e = is known (ap (λ (signals : List KnownSignalState). slice_get signals signal) (sym (move_leaves now point side part).signals) ∙ e)

  stopped_holds : (row : Row) (part : StepSoFar) → Holds part → Holds (stopped now row part)
  stopped_holds row part is = choose (is_signal_ready part.ixl row.entry) refl
    where
      choose : (b : Bool) → is_signal_ready part.ixl row.entry ≡ b → Holds (if b then giving_aspect now row.entry Aspect.Stop part else part)
      choose true ready = aspect_holds row.entry Aspect.Stop part ready is
      choose false unready = is

  withdrawing_holds : (number : ℕ) (part : StepSoFar) → Holds part → Holds (withdrawing now table number part)
  unfolding withdrawing
  withdrawing_holds number part is = route_keeps Holds table number _ part (λ row route there here. where_keeps Holds (is_stop_due table part.ixl row route) part _ (λ due. stopped_holds row (with_route number (come_to Phase.Withdrawn) part) is) is) is

  moving_one_holds : (number : ℕ) (need : Need) (part : StepSoFar) → Holds part → Holds (moving_one now table number need part)
  unfolding moving_one
  moving_one_holds number need part is = route_keeps Holds table number _ part (λ row route there here. where_keeps Holds (is_move_due table part.ixl number route need) part _ (λ due. move_holds need.point need.side part is) is) is

  proceeding_holds : (number : ℕ) (part : StepSoFar) → Holds part → Holds (proceeding now table number part)
  unfolding proceeding
  proceeding_holds number part is = route_keeps Holds table number _ part (λ row route there here. where_keeps Holds (is_proceed_due now table part.ixl row route) part _
      (λ due. aspect_holds row.entry row.aspect (with_route number (authorised table part.ixl row) part) (is_ready_there now table part.ixl row route due) is) is) is

  rules_hold : (part : StepSoFar) → Holds part → Holds (ruled now table part)
  rules_hold = turned_keeps Holds now table (λ number change part is. is) withdrawing_holds moving_one_holds proceeding_holds

  -- ---- ticks

  signal_ticked : (place : ℕ) (part : StepSoFar) → Holds part → Holds (known_signal_ticking now place part)
  unfolding known_signal_ticking
  signal_ticked place part is = one_keeps Holds (slice_get part.ixl.known_signals place) _ part (λ known e. set_holds place _ part (λ same.
      after_keeps known.aspect known.number known.indicated (ticking now (begun known.client part.outbox)).client
      (λ inside. let still = (inside_ticks now known.client part.outbox inside).same in ap is_ready still ∙ is known (ap (slice_get part.ixl.known_signals) (sym same) ∙ e) (ap is_outside (sym still) ∙ inside))) is) is

  point_ticked : (place : ℕ) (part : StepSoFar) → Holds part → Holds (known_point_ticking now place part)
  unfolding known_point_ticking
  point_ticked place part is = one_keeps Holds (slice_get part.ixl.known_points place) _ part (λ known e. is) is

  detector_ticked : (place : ℕ) (part : StepSoFar) → Holds part → Holds (detector_ticking now place part)
  unfolding detector_ticking
  detector_ticked place part is = one_keeps Holds (slice_get part.ixl.detectors place) _ part (λ known e. is) is

  ticked_holds : (input : Input) (part : StepSoFar) → Holds part → Holds (ticked now input part)
  ticked_holds = ticked_keeps Holds now signal_ticked point_ticked detector_ticked

  pub step_part : (key : Key) (input : Input) (part : StepSoFar) → IsSignalReady part.ixl signal → (At part.ixl.known_signals signal (λ known. is_up (settled now known.client.link).phase ≡ true)) → Holds (stepped now table key input part)
  unfolding stepped
  step_part key input part is up = ticked_holds input _ (rules_hold _ (over_keeps Holds (watching table) (watching_turns Holds now table (λ number change part is. is)) (count table) _
      (given_holds key input (record part { ixl = all_clocked now part.ixl }) (clocked_holds part is up))))

pub step_ready : (site : Site) (table : Table) (input : Input) (world : WorldState) (signal : ℕ) → IsSignalReady world.interlocking.ixl signal → IsSignalUp signal world
    → (known : KnownSignalState) → slice_get (interlocking_stepped site table input world).interlocking.ixl.known_signals signal ≡ Some known → KeepsReady known
unfolding interlocking_stepped
step_ready site table input world signal is up = step_part (reading_of world.interlocking.clock) table signal (key_of site) input (begun_with world.interlocking.ixl empty_outbox) is up

-- ---- a set route keeps its course over an event, where its links are up and its sections clear; and it has its aspect where all is known that this wants

pub each_of : (P : Need → Type 0) (needs : List Need) → ((need : Need) → Contains needs need → P need) → All P needs
each_of P needs each k other within = each (get_or needs k other) (Contains-get_or needs k other within)

-- ---- events

-- What is so of an interlocking, and after each step of it that leaves a route its setting, is so after an event that leaves it.
kept_then : (site : Site) (table : Table) (number : ℕ) (world : WorldState) (P : IxlState → Type 0) → P world.interlocking.ixl → ((input : Input) → LeavesSetting number input → P (interlocking_stepped site table input world).interlocking.ixl)
    → (one : Event) → KeepsSetting site number one → P (happens site table one world).interlocking.ixl
kept_then site table number world P is steps one keeps = event_then site table P world is one (λ input e. steps input (leaves_of site number one input keeps e)) (λ begins anew. absurd (not_anew site number one keeps anew))

-- ---- a route that is given its aspect

module _ (now : ℕ) (table : Table) (k : ℕ) (row : Row) (row_there : slice_get table.rows k ≡ Some row) where
  abbrev Course : StepSoFar → Type 0
  Course part = IsOnCourse part.ixl k row

  proceeding_course : (number : ℕ) (part : StepSoFar) → Course part → Course (proceeding now table number part)
  unfolding proceeding
  proceeding_course number part is = route_keeps Course table number _ part (λ other route there here. where_keeps Course (is_proceed_due now table part.ixl other route) part _ (λ due. given_so other route there due is) is) is
    where
      given_so : (other : Row) (route : RouteState) → slice_get table.rows number ≡ Some other → is_proceed_due now table part.ixl other route ≡ true → Course part
          → Course (giving_aspect now other.entry other.aspect (with_route number (authorised table part.ixl other) part))
      given_so other route there due = choose (k == number) refl
        where
          after : IxlState
          after = (giving_aspect now other.entry other.aspect (with_route number (authorised table part.ixl other) part)).ixl

          leaves : AspectLeaves other.entry (with_route number (authorised table part.ixl other) part).ixl after
          leaves = aspect_leaves now other.entry other.aspect (with_route number (authorised table part.ixl other) part)

          at_k : (F : RouteState → Type 0) → At (changed (authorised table part.ixl other) number part.ixl.routes) k F → At after.routes k F
          at_k F is_at = subst (λ (routes : List RouteState). At routes k F) (sym leaves.routes) is_at

          known_still : AllKnown part.ixl row.needs → AllKnown after row.needs
          known_still all = subst (λ (ps : List KnownPointState). AllKnown (record part.ixl { known_points = ps }) row.needs) (sym leaves.points) all

          choose : (b : Bool) → (k == number) ≡ b → IsOnCourse part.ixl k row → IsOnCourse after k row
          choose true e (inl waits) =
              let same : k ≡ number = is_equal k number e
              in let same_row : other ≡ row = same_Some other row (sym there ∙ (ap (slice_get table.rows) (sym same) ∙ row_there))
              in inr (
                at_k HasAspect (
                  authorised table part.ixl other waits.0,
                  ap (slice_get (changed (authorised table part.ixl other) number part.ixl.routes)) same
                      ∙ changed_here (authorised table part.ixl other) number part.ixl.routes waits.0 (ap (slice_get part.ixl.routes) (sym same) ∙ waits.1),
                  (refl, waits.2.1),
                ),
                known_still (subst (λ (r : Row). AllKnown part.ixl r.needs) same_row (known_then now table part.ixl other route due)),
              )
          choose false e (inl waits) = inl (at_k Waits (waits.0, changed_elsewhere (authorised table part.ixl other) number k part.ixl.routes (differs k number e) ∙ waits.1, waits.2))
          choose b e (inr proceeds) = inr (
            at_k HasAspect (at_changed HasAspect k number (authorised table part.ixl other) part.ixl.routes (λ one same at holds. (refl, holds.1)) proceeds.0),
            known_still proceeds.1,
          )

-- it waits, or has its aspect, and each point that it requires is known at its side, or its link has fallen
abbrev SidedCourse : ℕ → Row → IxlState → Type 0
SidedCourse k row ixl = At ixl.routes k Waits ⊎ (At ixl.routes k HasAspect × ((need : Need) → Contains row.needs need → IsInside ixl need.point → Known ixl need.point need.side))

step_waits : (site : Site) (table : Table) (k : ℕ) (row : Row) → slice_get table.rows k ≡ Some row → (input : Input) (world : WorldState) → LeavesSetting k input → At world.interlocking.ixl.routes k Waits → SidedCourse k row (interlocking_stepped site table input world).interlocking.ixl
unfolding interlocking_stepped stepped
step_waits site table k row row_there input world leaves is = by_course (over_keeps (Course now table k row row_there) (proceeding now table) (proceeding_course now table k row row_there) (count table) (moved now table seen) (inl still))
  where
    now : ℕ
    now = reading_of world.interlocking.clock

    begins : StepSoFar
    begins = begun_with world.interlocking.ixl empty_outbox

    seen : StepSoFar
    seen = over (watching table) (count table) (given now table (key_of site) input (record begins { ixl = all_clocked now begins.ixl }))

    still : At (moved now table seen).ixl.routes k Waits
    still = until_moved now table k Waits waits_keep seen (over_keeps (λ (q : StepSoFar). At q.ixl.routes k Waits) (withdrawing now table) (waits_held now table k) (count table) seen (seen_held now table k Waits waits_keep (key_of site) input begins leaves is))

    by_course : IsOnCourse (ruled now table seen).ixl k row → SidedCourse k row (ticked now input (ruled now table seen)).ixl
    by_course (inl waits) = inl (subst (λ (routes : List RouteState). At routes k Waits) (sym (ticks_bring_nothing now input (ruled now table seen)).routes) waits)
    by_course (inr (proceeds, known)) = inr (
      subst (λ (routes : List RouteState). At routes k HasAspect) (sym (ticks_bring_nothing now input (ruled now table seen)).routes) proceeds,
      λ need within inside. known_still table (ruled now table seen).ixl (ticked now input (ruled now table seen)).ixl (ticks_bring_nothing now input (ruled now table seen)) need.point need.side inside.0 inside.1 inside.2
          (All-contains (λ (one : Need). Known (ruled now table seen).ixl one.point one.side) row.needs need known within),
    )

-- ---- a link that is up by the clock

pub settled_inside : (now : ℕ) (client : ClientState) → is_outside client.stage ≡ not (is_up client.link.phase) → is_up (settled now client.link).phase ≡ true → is_outside client.stage ≡ false
settled_inside now client outside up = outside ∙ ap not (ap (λ (l : LinkState). is_up l.phase) (sym (settled_open now client.link (up_open (settled now client.link).phase up)).0) ∙ up)

-- ---- the course of a route over an event

module _ (laws : LawsBelow) (site : Site) (table : Table) (is_table : IsTableOf site table) (number : ℕ) (row : Row) (row_there : slice_get table.rows number ≡ Some row) where
  module _ (one : Event) (world : WorldState) (reached : IsReached site table world) (keeps : KeepsSetting site number one) (up : AreLinksUp row world) (behind_up : AreLinksUp row (happens site table one world)) where
    abbrev behind : WorldState
    behind = happens site table one world

    behind_stand : EachClient (ClientStandsAt site) behind.interlocking.ixl
    behind_stand = kept_then site table number world (EachClient (ClientStandsAt site)) (clients_stand site table world reached) (λ input leaves. clients_stepped site table input world (clients_stand site table world reached)) one keeps

    pub ready_behind : IsSignalReady world.interlocking.ixl row.entry → IsSignalReady behind.interlocking.ixl row.entry
    ready_behind is = let known = behind_up.signal in (
      known.0,
      known.1,
      kept known.0 known.1
          (settled_inside (reading_of behind.interlocking.clock) known.0.client (behind_stand.signals row.entry known.0 known.1).stands.outside known.2),
    )
      where
        kept : (known : KnownSignalState) → slice_get behind.interlocking.ixl.known_signals row.entry ≡ Some known → KeepsReady known
        kept = kept_then site table number world (λ ixl. (known : KnownSignalState) → slice_get ixl.known_signals row.entry ≡ Some known → KeepsReady known)
            (λ known e inside. ap (λ (k : KnownSignalState). is_ready k.client.stage) (same_Some known is.0 (sym e ∙ is.1)) ∙ is.2) (λ input leaves. step_ready site table input world row.entry is up.signal) one keeps

    inside_behind : (need : Need) → Contains row.needs need → IsInside behind.interlocking.ixl need.point
    inside_behind need within = let known = behind_up.points need within in (known.0, known.1, settled_inside (reading_of behind.interlocking.clock) known.0.client (behind_stand.points need.point known.0 known.1).stands.outside known.2)

    -- what the route needs, after the event
    clear_behind : IsSignalReady world.interlocking.ixl row.entry → AllClear table behind.interlocking.ixl row.sections → IsClearFor table behind.interlocking.ixl row
    clear_behind ready clear = record {
      points = inside_behind;
      sections = clear;
      signal = ready_behind ready;
    }

    points_up : AllKnown world.interlocking.ixl row.needs → HasPointsUp world row
    points_up known = record {
      ready = λ need within. let is = All-contains (λ (one : Need). Known world.interlocking.ixl one.point one.side) row.needs need known within in (is.0, is.1, available_ready is.0.client.stage is.2.0);
      up = up.points;
    }

    course_waits : At world.interlocking.ixl.routes number Waits → IsOnCourse behind.interlocking.ixl number row
    course_waits is = choose (kept_then site table number world (SidedCourse number row) (inl is) (λ input leaves. step_waits site table number row row_there input world leaves is) one keeps)
      where
        choose : SidedCourse number row behind.interlocking.ixl → IsOnCourse behind.interlocking.ixl number row
        choose (inl waits) = inl waits
        choose (inr (proceeds, sided)) = inr (proceeds, each_of (λ (need : Need). Known behind.interlocking.ixl need.point need.side) row.needs (λ need within. sided need within (inside_behind need within)))

    -- a set route of which nothing is freed holds its points
    held_by : (route : RouteState) → slice_get behind.interlocking.ixl.routes number ≡ Some route → is_set route.phase ≡ true → freed_sections route.phase ≡ 0 → (need : Need) → Contains row.needs need → IsHeldAt table behind.interlocking.ixl need.point need.side
    held_by route there set none need within = (number, row, route, (row_there, there), (set, (need, within, refl, refl, subst (λ (n : ℕ). n < need.until) (sym none) (holds_each site table is_table number row need row_there within))))

    pub course_proceeds : IsSignalReady world.interlocking.ixl row.entry → AllClear table behind.interlocking.ixl row.sections → At world.interlocking.ixl.routes number HasAspect → AllKnown world.interlocking.ixl row.needs → At behind.interlocking.ixl.routes number HasAspect × AllKnown behind.interlocking.ixl row.needs
    course_proceeds ready clear proceeds known = (
      still,
      each_of (λ (need : Need). Known behind.interlocking.ixl need.point need.side) row.needs (λ need within.
          held_known laws.move_is_given_where_due laws.request_is_accepted_where_admissible site table one world need.point need.side is_table reached (All-contains (λ (other : Need). Known world.interlocking.ixl other.point other.side) row.needs need known within) (up.points need within) (held_by still.0 still.1 (ap is_set still.2.0) (ap freed_sections still.2.0) need within) (inside_behind need within)),
    )
      where
        still : At behind.interlocking.ixl.routes number HasAspect
        still = clear_goes_on laws.stop_is_given_where_due laws.move_is_given_where_due site table one world number row is_table reached row_there keeps (points_up known) (clear_behind ready clear) proceeds

    -- and they stay known
    pub known_behind : (need : Need) → Contains row.needs need → IsOnCourse behind.interlocking.ixl number row → Known world.interlocking.ixl need.point need.side → Known behind.interlocking.ixl need.point need.side
    known_behind need within (inl waits) known = held_known laws.move_is_given_where_due laws.request_is_accepted_where_admissible site table one world need.point need.side is_table reached known (up.points need within)
        (held_by waits.0 waits.1 (ap is_set waits.2.0) (ap freed_sections waits.2.0) need within) (inside_behind need within)
    known_behind need within (inr (proceeds, all)) known = held_known laws.move_is_given_where_due laws.request_is_accepted_where_admissible site table one world need.point need.side is_table reached known (up.points need within)
        (held_by proceeds.0 proceeds.1 (ap is_set proceeds.2.0) (ap freed_sections proceeds.2.0) need within) (inside_behind need within)

    pub course_behind : IsSignalReady world.interlocking.ixl row.entry → AllClear table behind.interlocking.ixl row.sections → IsOnCourse world.interlocking.ixl number row → IsOnCourse behind.interlocking.ixl number row
    course_behind ready clear (inl waits) = course_waits waits
    course_behind ready clear (inr (proceeds, known)) = inr (course_proceeds ready clear proceeds known)

  -- where all is known that the aspect wants, the route has it
  pub course_ends : (world : WorldState) → IsReached site table world → At world.interlocking.ixl.routes number (λ route. Waits route ⊎ HasAspect route) → IsUpheld table world.interlocking.ixl row → At world.interlocking.ixl.routes number HasAspect
  course_ends world reached (route, there, inr proceeds) upheld = (route, there, proceeds)
  course_ends world reached (route, there, inl waits) upheld = absurd (known_proceeds laws.proceed_is_given_where_due laws.request_is_accepted_where_admissible site table world number row route reached (row_there, there) waits upheld.0 upheld.1 upheld.2)
