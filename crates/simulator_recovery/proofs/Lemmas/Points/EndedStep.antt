-- A route whose authority has ended holds a point after an event: then it held it with authority before, and the event gave the point no move.
use Rattle.simulator_recovery.proofs.Words.Basics.{◌≡◌, ◌≢◌, ◌⊎◌, inl, inr, ℕ, ◌<◌, List, [], ◌++◌, length, Some, None, slice_get, refl, sym, ap, subst, ◌∙◌, Contains, same_Some}
use Rattle.simulator_recovery.proofs.Words.Links.{settled, Receives, reading_of, Links, MayCallOn, run_links, OutboxState, LinkState, all_made}
use Rattle.simulator_recovery.proofs.Words.Interlockings.{IsTableOf, ClientState, PeerState, LinkCall, begun, clocked, hearing, ticking, At, authorised, count, is_move_due, is_proceed_due, moved, moving, moving_one, proceeding, ruled, IxlState, KnownPointState, RouteState, Input, all_clocked, clocked_known_point, stepped, ticked, Point, StepSoFar, begun_with, empty_outbox, with_route, Need, Row, Table, freed_sections, was_authorised, Phase}
use Rattle.simulator_recovery.proofs.Words.Stations.{Site, Event, Deliver, NodeId, Beginning, new_ixl, new_route_of, happens, interlocking_stepped, interlocking_step, AreLinksOf, names_at, connection_of, copy_of, key_of, point_link, refusal, WorldState, events_of, interlocking_events, client_states}
use Rattle.simulator_recovery.proofs.Words.Machine.{given_after}
use Rattle.simulator_recovery.proofs.Words.Recovery.{LawsBelow, MoveLaw, WrittenIsRead}
use Rattle.simulator_recovery.proofs.Lemmas.Ground.MovedAtOnce.{held_unmoved}
use Rattle.simulator_recovery.proofs.Lemmas.Ground.SectionsEvents.{CanBe, CanStep, event_kept}
use Rattle.simulator_recovery.proofs.Lemmas.Ground.AtLink.{mapped}
use Rattle.simulator_recovery.proofs.Lemmas.Points.AwaitsHeld.{Holding, freed, heard, holds_or, moved_so, seen}
use Rattle.simulator_recovery.proofs.Lemmas.Talk.ClientLinks.{clocked_peer}
use Rattle.simulator_recovery.proofs.Lemmas.RoutesComing.DueCourse.{at_changed}
use Rattle.simulator_recovery.proofs.Lemmas.Ground.IxlAlways.{event_then}
use Rattle.simulator_recovery.proofs.Lemmas.Ground.DueShapes.{over_keeps, route_keeps, where_keeps}
use Rattle.simulator_recovery.proofs.Lemmas.RoutesComing.DueKnown.{ticks_bring_nothing}
use Rattle.simulator_recovery.proofs.Lemmas.Points.EndedCalls.{On, behind_moves_on, given_on, move_on, until_moves_on}
use Rattle.simulator_recovery.proofs.Lemmas.Points.EndedClient.{AddsNoMove, AsksOnly, GaveNoMove, asks_only, hears_none, ticks_none}
use Rattle.simulator_recovery.proofs.Lemmas.Ground.IxlClients.{mapped_at, point_client}
use Rattle.simulator_recovery.proofs.Lemmas.Ground.IxlSoFar.{at_node}
use Rattle.simulator_recovery.proofs.Lemmas.RoutesComing.NothingDueProceeds.{aspect_leaves}
use Rattle.simulator_recovery.proofs.Lemmas.RoutesComing.NothingDueStops.{HoldsEach}
use Rattle.simulator_recovery.proofs.Lemmas.RoutesComing.RoutesCome.{point_there}
use Rattle.simulator_recovery.proofs.Lemmas.Talk.StationTalk.{Before, SameLists, Talking, before, clocked_link, gave, gave_behind_step}
use Rattle.simulator_recovery.proofs.Lemmas.Points.UnheldPhases.{HeldNone, HoldsNone, HoldsNoneAt, moving_none, none_held, seen_none, until_moved, none_or}

-- The authority of a route has ended, and the route still holds the point.
pub record EndedHolds (need : Need) (route : RouteState) : Type 0 where
  pub clock : ℕ
  pub done : ℕ
  pub ended : route.phase ≡ Phase.Ended clock done
  pub awaits : done < need.until

-- ---- a route that holds no point with authority comes to proceed at most

module _ (at : ℕ) (table : Table) (k until : ℕ) where
  abbrev HoldsNoneYet : RouteState → Type 0
  HoldsNoneYet route = HoldsNone until route.phase ⊎ (route.phase ≡ Phase.Proceeding)

  abbrev NoneYet : StepSoFar → Type 0
  NoneYet part = At part.ixl.routes k HoldsNoneYet

  proceeding_yet : (number : ℕ) (part : StepSoFar) → NoneYet part → NoneYet (proceeding at table number part)
  unfolding proceeding
  proceeding_yet number part is = route_keeps NoneYet table number _ part (λ row one there here. where_keeps NoneYet (is_proceed_due at table part.ixl row one) part _
      (λ due. subst (λ (routes : List RouteState). At routes k HoldsNoneYet)
      (sym (aspect_leaves at row.entry row.aspect (with_route number (authorised table part.ixl row) part)).routes)
      (at_changed HoldsNoneYet k number (authorised table part.ixl row) part.ixl.routes (λ route same found holds. inr refl) is)) is) is

  behind_moves : (input : Input) (part : StepSoFar) → HeldNone at table k until (moved at table part) → NoneYet (ticked at input (ruled at table part))
  behind_moves input part none = subst (λ (routes : List RouteState). At routes k HoldsNoneYet) (sym (ticks_bring_nothing at input (ruled at table part)).routes)
      (over_keeps NoneYet (proceeding at table) proceeding_yet (count table) (moved at table part) (none.0, none.1, inl none.2))

not_ended : (need : Need) (route : RouteState) → HoldsNone need.until route.phase ⊎ (route.phase ≡ Phase.Proceeding) → EndedHolds need route → ⊥
not_ended need route (inl none) ended = none_held need.until route.phase none (ap was_authorised ended.ended) (subst (λ (n : ℕ). n < need.until) (sym (ap freed_sections ended.ended)) ended.awaits)
not_ended need route (inr proceeds) ended = absurd (cc (sym proceeds ∙ ended.ended))

module _ (site : Site) (table : Table) (k : ℕ) (row : Row) (row_there : slice_get table.rows k ≡ Some row) (need : Need) (within : Contains row.needs need) where
  -- so it doesn't come to hold the point with its authority ended
  abbrev NoneYetAt : IxlState → Type 0
  NoneYetAt ixl = At ixl.routes k (λ route. HoldsNone need.until route.phase ⊎ (route.phase ≡ Phase.Proceeding))

  abbrev pub EndedAt : IxlState → Type 0
  EndedAt ixl = At ixl.routes k (EndedHolds need)

  none_yet : (ixl : IxlState) → NoneYetAt ixl → EndedAt ixl → ⊥
  none_yet ixl none ended = not_ended need ended.0
      (subst (λ (r : RouteState). HoldsNone need.until r.phase ⊎ (r.phase ≡ Phase.Proceeding)) (same_Some none.0 ended.0 (sym none.1 ∙ ended.1)) none.2) ended.2

  step_yet : (input : Input) (world : WorldState) → HoldsNoneAt site table k row row_there need within world.interlocking.ixl → NoneYetAt (interlocking_stepped site table input world).interlocking.ixl
  unfolding interlocking_stepped stepped
  step_yet input world none = behind_moves at table k need.until input _
      (until_moved at table k need.until _ (seen_none at table k need.until (key_of site) input (begun_with world.interlocking.ixl empty_outbox) none))
    where
      at : ℕ
      at = reading_of world.interlocking.clock

  new_yet : (begins : Beginning) → NoneYetAt (new_ixl site table begins)
  unfolding new_ixl
  new_yet begins = (new_route_of row, mapped new_route_of table.rows k row row_there, inl tt)

  pub new_ended : (begins : Beginning) → EndedAt (new_ixl site table begins) → ⊥
  new_ended begins ended = none_yet (new_ixl site table begins) (new_yet begins) ended

  pub ended_before : (one : Event) (world : WorldState) → HoldsNoneAt site table k row row_there need within world.interlocking.ixl → EndedAt (happens site table one world).interlocking.ixl → ⊥
  ended_before one world none ended = none_yet (happens site table one world).interlocking.ixl
      (event_then site table NoneYetAt world (none.0, none.1, inl none.2) one (λ input e. step_yet input world none) (λ begins anew. new_yet begins)) ended

  -- ---- the point is given no move

  module _ (law : MoveLaw) (holds : HoldsEach table) (talk : LawsBelow) (written : WrittenIsRead) (is_table : IsTableOf site table) (few : need.point < length site.points) where
    abbrev link : ℕ
    link = point_link site need.point

    -- what is known of a station before an event
    pub record GaveAt (gave_so : List (List ℕ)) (world : WorldState) (network : Links) : Type 0 where
      pub talking : Talking site world network
      pub there : At world.interlocking.ixl.routes k (λ route. Unit {0})
      pub gave_is : gave network link ≡ gave_so

    -- a step of the interlocking
    module _ (input : Input) (connection : ℕ) (happening : Event) (world : WorldState) (network : Links)
        (step : CanStep site table input connection happening world network) (talking : Talking site world network) (there : At world.interlocking.ixl.routes k (λ route. Unit {0})) where
      abbrev at : ℕ
      at = reading_of world.interlocking.clock

      was : (known : KnownPointState) × (slice_get world.interlocking.ixl.known_points need.point ≡ Some known) × (slice_get (client_states world.interlocking.ixl) link ≡ Some known.client)
      was = point_there site world step.can.whole need.point few

      b : Before talk site table is_table input connection world network step.can.named step.can.whole step.can.timely step.can.are
          step.comes step.may talking.stands talking.speaks talking.talk (Point need.point) was.0.client
      b = (before talk site table is_table input connection world network step.can.named step.can.whole step.can.timely step.can.are
          step.comes step.may talking.stands talking.speaks talking.talk).points need.point was.0 was.1

      abbrev peer : PeerState
      peer = was.0.client.peer

      asks_so : AsksOnly peer
      asks_so = asks_only written peer (step.can.whole.clients.peers link was.0.client was.2)

      abbrev own_link : LinkState
      own_link = (network.ends link).client.link

      abbrev Gave : ClientState → List LinkCall → Type 0
      Gave = GaveNoMove site at connection peer asks_so own_link (gave network link)

      hears_so : (client : ClientState) (outbox : OutboxState) (bytes : List ℕ) (calls : List LinkCall) → Gave client calls
          → Gave (hearing at bytes (begun client outbox)).client (calls ++ (hearing at bytes (begun client outbox)).calls)
      hears_so = hears_none site at connection peer asks_so own_link (gave network link)

      ticks_so : (client : ClientState) (outbox : OutboxState) (calls : List LinkCall) → Gave client calls
          → Gave (ticking at (begun client outbox)).client (calls ++ (ticking at (begun client outbox)).calls)
      ticks_so = ticks_none site at connection peer asks_so own_link (gave network link)

      abbrev OnCalls : StepSoFar → Type 0
      OnCalls = On at need.point Gave hears_so ticks_so

      abbrev heard_part : StepSoFar
      heard_part = heard law site table holds k row row_there need within input world

      abbrev freed_part : StepSoFar
      freed_part = freed law site table holds k row row_there need within input world

      abbrev seen_part : StepSoFar
      seen_part = seen law site table holds k row row_there need within input world

      abbrev done : StepSoFar
      done = interlocking_step site table input world.interlocking

      clocked_on : OnCalls (record (begun_with world.interlocking.ixl empty_outbox) { ixl = all_clocked at world.interlocking.ixl })
      unfolding all_clocked at_node all_made given_after
      clocked_on known e = subst (λ (x : KnownPointState). Gave x.client []) (sym found.2) (subst (λ (c : ClientState). Gave c []) (sym (point_client _ _ _)) gone)
        where
          found : (x : KnownPointState) × (slice_get world.interlocking.ixl.known_points need.point ≡ Some x) × (known ≡ clocked_known_point at x)
          found = mapped_at (clocked_known_point at) world.interlocking.ixl.known_points need.point known e

          same : found.0 ≡ was.0
          same = same_Some found.0 was.0 (sym found.1 ∙ was.1)

          gone : Gave (clocked at found.0.client) []
          gone = record {
            link_is = clocked_link at found.0.client ∙ (ap (λ (x : KnownPointState). settled at x.client.link) same ∙ b.link_is);
            peer_is = clocked_peer at found.0.client ∙ ap (λ (x : KnownPointState). x.client.peer) same;
            none = inl refl;
          }

      -- a point that the route holds with authority is moved by no command
      freed_on : Holding law site table holds k row row_there need within there.0 → OnCalls freed_part
      unfolding all_clocked
      freed_on holding = until_moves_on at need.point Gave hears_so ticks_so table heard_part
          (given_on at need.point Gave hears_so ticks_so table (key_of site) input
          (record (begun_with world.interlocking.ixl empty_outbox) { ixl = all_clocked at world.interlocking.ixl })
          (λ place to part is none on. move_on at need.point Gave hears_so ticks_so place.0 to part
          (λ known same. absurd (held_unmoved at table (all_clocked at world.interlocking.ixl) k row there.0 need row_there there.1 within holding.1 holding.2 place to (sym same) none)) on) clocked_on)

      others_on : (number : ℕ) (own : Need) (part : StepSoFar) → need.point ≢ own.point → OnCalls part → OnCalls (moving_one at table number own part)
      unfolding moving_one
      others_on number own part differ is = route_keeps OnCalls table number _ part (λ other one found here. where_keeps OnCalls (is_move_due table part.ixl number one own) part _
          (λ due. move_on at need.point Gave hears_so ticks_so own.point own.side part (λ known same. absurd (differ same)) is) is) is

      done_on : EndedAt done.ixl → OnCalls done
      unfolding stepped
      done_on ended = by_world (none_or need.until (holds k row need row_there within) there.0.phase)
        where
          by_phase : OnCalls freed_part → At freed_part.ixl.routes k (λ route. HoldsNone need.until route.phase) ⊎ At freed_part.ixl.routes k (Holding law site table holds k row row_there need within)
              → OnCalls (ticked at input (ruled at table seen_part))
          by_phase so (inl none) = absurd (none_yet (ticked at input (ruled at table seen_part)).ixl (behind_moves at table k need.until input seen_part
              (over_keeps (HeldNone at table k need.until) (moving at table) (moving_none at table k need.until) (count table) freed_part none)) ended)
          by_phase so (inr holding) = behind_moves_on at need.point Gave hears_so ticks_so table input seen_part
              (moved_so law site table holds k row row_there need within at OnCalls others_on seen_part holding so)

          by_world : HoldsNone need.until there.0.phase ⊎ Holding law site table holds k row row_there need within there.0 → OnCalls (ticked at input (ruled at table seen_part))
          by_world (inl none) = absurd (none_yet (ticked at input (ruled at table seen_part)).ixl (behind_moves at table k need.until input seen_part
              (until_moved at table k need.until seen_part (seen_none at table k need.until (key_of site) input (begun_with world.interlocking.ixl empty_outbox) (there.0, there.1, none)))) ended)
          by_world (inr held) = by_phase (freed_on held) (holds_or law site table holds k row row_there need within input world there)

      step_none : (known : KnownPointState) → slice_get done.ixl.known_points need.point ≡ Some known → EndedAt done.ixl
          → AddsNoMove (gave network link) (gave (run_links (interlocking_events site table input connection world.interlocking) network) link)
      step_none known e ended = subst (AddsNoMove (gave network link))
          (sym (gave_behind_step talk site table is_table input connection world network step.can.named step.can.whole step.can.timely step.can.are
          step.comes step.may talking.stands talking.speaks talking.talk (Point need.point) few)) (done_on ended known e).none

    -- ---- any event

    -- what is so after it
    abbrev GivesNone : List (List ℕ) → IxlState → Links → Type 0
    GivesNone gave_so ixl network = (known : KnownPointState) → slice_get ixl.known_points need.point ≡ Some known → EndedAt ixl → AddsNoMove gave_so (gave network link)

    same_none : (gave_so : List (List ℕ)) (ixl : IxlState) (old new : Links) → SameLists old new → GivesNone gave_so ixl old → GivesNone gave_so ixl new
    same_none gave_so ixl old new same is known e ended = subst (AddsNoMove gave_so) (sym (same.given link)) (is known e ended)

    new_none : (gave_so : List (List ℕ)) (begins : Beginning) (network : Links) → GivesNone gave_so (new_ixl site table begins) network
    new_none gave_so begins network known e ended = absurd (new_ended begins ended)

    pub event_none : ((at_site : Site) (node : NodeId) (bytes : List ℕ) (one : WorldState) (links_of : Links) → AreLinksOf at_site one links_of → refusal at_site (Deliver node bytes) one ≡ None
        → (other : ℕ) → MayCallOn (names_at at_site other) (Receives bytes (connection_of (copy_of bytes one))) links_of)
        → (happening : Event) (world : WorldState) (network : Links) → CanBe site table happening world network → GaveAt (gave network link) world network
        → GivesNone (gave network link) (happens site table happening world).interlocking.ixl (run_links (events_of site table happening world) network)
    event_none may_come happening world network can given = event_kept talk may_come site table (GaveAt (gave network link)) (GivesNone (gave network link)) (same_none (gave network link))
        (λ input connection one w n step is before_it known e ended.
        subst (λ (items : List (List ℕ)). AddsNoMove items (gave (run_links (interlocking_events site table input connection w.interlocking) n) link)) is.gave_is
        (step_none input connection one w n step is.talking is.there known e ended))
        (λ begins w one n whole same is before_it. new_none (gave network link) begins n) happening world network can given (λ known e ended. inl refl)
