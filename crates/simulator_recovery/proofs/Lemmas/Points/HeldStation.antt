-- What an event leaves of a point whose move is out: its client awaits the report, or has taken it, and no other move was given after that.
use Rattle.simulator_recovery.proofs.Words.Basics.{◌≡◌, ℕ, ◌∙◌, true, false, List, [], ◌++◌, append-nil, length, map, Some, slice_get, refl, sym, ap, subst, false≢true, same_Some, None}
use Rattle.simulator_recovery.proofs.Words.Links.{settled, Receives, reading_of, Links, MayCallOn, run_links, LinkState, is_up}
use Rattle.simulator_recovery.proofs.Words.Controllers.{Side}
use Rattle.simulator_recovery.proofs.Words.Interlockings.{IsTableOf, ClientState, PeerState, is_available, is_outside, new_client, LinkCall, Stage, IsHeldAt, IxlState, KnownPointState, all_clocked, clocked_known_point, stepped, Point, StepSoFar, begun_with, empty_outbox, Table}
use Rattle.simulator_recovery.proofs.Words.Stations.{Site, Event, Deliver, NodeId, Beginning, new_ixl, new_known_point_of, happens, interlocking_stepped, interlocking_step, AreLinksOf, names_at, connection_of, copy_of, key_of, point_link, refusal, WorldState, events_of, interlocking_events, IsReached}
use Rattle.simulator_recovery.proofs.Words.Recovery.{known_in_step, LawsBelow, MoveLaw, RequestLaw}
use Rattle.simulator_spec.specs.ixl_spec.Step as ixl
use Rattle.simulator_recovery.proofs.Lemmas.Ground.SectionsEvents.{CanBe, CanStep, event_kept}
use Rattle.simulator_recovery.proofs.Lemmas.Ground.AtLink.{mapped}
use Rattle.simulator_recovery.proofs.Lemmas.Talk.ClientLinks.{ClockedStands, clocked_peer, clocked_stands}
use Rattle.simulator_recovery.proofs.Lemmas.RoutesComing.HeldNeeds.{heard_in, heard_known}
use Rattle.simulator_recovery.proofs.Lemmas.RoutesComing.DueKnown.{KnownInside, always_speak, clocked_side}
use Rattle.simulator_recovery.proofs.Lemmas.Points.HeldClient.{HearsOne, nothing, report}
use Rattle.simulator_recovery.proofs.Lemmas.Points.HeldPoints.{AtClock, HasHeard, IsLeft, Leaves, OfPoint, Takes, hear, keep, left_first, so_far}
use Rattle.simulator_recovery.proofs.Lemmas.Ground.IxlClients.{mapped_at}
use Rattle.simulator_recovery.proofs.Lemmas.Ground.IxlSoFar.{at_node}
use Rattle.simulator_recovery.proofs.Lemmas.Points.KnownClient.{after_client}
use Rattle.simulator_recovery.proofs.Lemmas.Points.KnownIxl.{behind_held, given_heard}
use Rattle.simulator_recovery.proofs.Lemmas.Talk.StationTalk.{Before, SameLists, Talking, before, clocked_link, took, took_behind_step}

-- ---- what an event leaves

-- A client that awaited a report has taken nothing more, and awaits it; or it has taken one item more, and where the point is known at this
-- side then, it awaits no other.
pub data ReportOnce (side : Side) (known : KnownPointState) (more : List (List ℕ)) : Type 0 where
  waits : known.client.stage ≡ Stage.AwaitsReport → more ≡ [] → ReportOnce side known more
  comes : length more ≡ 1 → (known.side ≡ Some side → is_available known.client.stage ≡ true) → ReportOnce side known more

pub record Outcome (side : Side) (was : KnownPointState) (had : List (List ℕ)) (known : KnownPointState) (taken : List (List ℕ)) : Type 0 where
  pub more : List (List ℕ)
  pub are : taken ≡ had ++ more
  pub awaited : was.client.stage ≡ Stage.AwaitsReport → ReportOnce side known more

module _ (clients : LawsBelow) (talk : LawsBelow) (move : MoveLaw) (request : RequestLaw) (site : Site) (table : Table) (is_table : IsTableOf site table) (place : ℕ) (side : Side)
    (was : KnownPointState) (within : is_outside was.client.stage ≡ false) where
  abbrev at : ℕ
  at = point_link site place

  -- what is known of a station before an event
  pub record GivenAt (had : List (List ℕ)) (world : WorldState) (network : Links) : Type 0 where
    pub talking : Talking site world network
    pub reached : IsReached site table world
    pub there : slice_get world.interlocking.ixl.known_points place ≡ Some was
    pub up : is_up (settled (reading_of world.interlocking.clock) was.client.link).phase ≡ true
    pub had_is : took network at ≡ had

  -- ---- a step of the interlocking

  module _ (input : ixl.Input) (connection : ℕ) (happening : Event) (world : WorldState) (network : Links) (step : CanStep site table input connection happening world network) (had : List (List ℕ))
      (is : GivenAt had world network) where
    abbrev now : ℕ
    now = reading_of world.interlocking.clock

    abbrev points : List KnownPointState
    points = world.interlocking.ixl.known_points

    abbrev clocks : List KnownPointState
    clocks = map (clocked_known_point now) points

    abbrev link : LinkState
    link = (network.ends at).client.link

    abbrev taken : List (List ℕ)
    taken = took network at

    b : Before talk site table is_table input connection world network step.can.named step.can.whole step.can.timely step.can.are
        step.comes step.may is.talking.stands is.talking.speaks is.talking.talk (Point place) was.client
    b = (before talk site table is_table input connection world network step.can.named step.can.whole step.can.timely step.can.are
        step.comes step.may is.talking.stands is.talking.speaks is.talking.talk).points place was is.there

    abbrev heard_part : StepSoFar
    heard_part = heard_in site table input world

    abbrev done : StepSoFar
    done = interlocking_step site table input world.interlocking

    abbrev Clocked : KnownPointState → List LinkCall → Type 0
    Clocked = AtClock clients now connection place link taken clocks

    abbrev Heard : KnownPointState → List LinkCall → Type 0
    Heard = HasHeard clients now connection place link taken clocks

    abbrev Left : KnownPointState → List LinkCall → Type 0
    Left = IsLeft clients now connection place link taken heard_part.ixl.known_points (at_node (Point place) heard_part.calls)

    clock_there : slice_get clocks place ≡ Some (clocked_known_point now was)
    clock_there = mapped (clocked_known_point now) points place was is.there

    clocked_one : Clocked (clocked_known_point now was) []
    clocked_one = record {
      none = refl;
      there = clock_there;
      link_is = ap (λ (c : ClientState). c.link) (after_client _ _ _) ∙ (clocked_link now was.client ∙ b.link_is);
      counts = subst (ClockedStands now) (sym (after_client _ _ _)) (clocked_stands now was.client b.counts);
      point = ap (λ (c : ClientState). c.peer.protocol) (after_client _ _ _) ∙ (ap (λ (p : PeerState). p.protocol) (clocked_peer now was.client)
          ∙ (always_speak site table world is.reached).points place was is.there);
    }

    clocked_all : OfPoint place Clocked clocks []
    unfolding at_node
    clocked_all known e = subst (λ (k : KnownPointState). Clocked k []) (same_Some (clocked_known_point now was) known (sym clock_there ∙ e)) clocked_one

    heard_all : OfPoint place Heard heard_part.ixl.known_points heard_part.calls
    unfolding all_clocked
    heard_all = given_heard now table (OfPoint place Clocked) (OfPoint place Heard) (hear clients now connection place link taken clocks)
        (key_of site) input (begun_with (all_clocked now world.interlocking.ixl) empty_outbox) clocked_all

    left_all : OfPoint place Left done.ixl.known_points done.calls
    unfolding stepped
    left_all = behind_held now table (OfPoint place Left) (keep clients now connection place link taken heard_part.ixl.known_points (at_node (Point place) heard_part.calls)) input heard_part
        (λ known e. let h = heard_all known e in left_first clients now connection place link taken heard_part.ixl.known_points (at_node (Point place) heard_part.calls) known e h.link_is h.counts)

    taken_is : took (run_links (interlocking_events site table input connection world.interlocking) network) at ≡ so_far clients now connection place link taken (at_node (Point place) done.calls)
    taken_is = took_behind_step talk site table is_table input connection world network step.can.named step.can.whole step.can.timely step.can.are
        step.comes step.may is.talking.stands is.talking.speaks is.talking.talk (Point place) b.there

    -- where it is known at this side after what is heard, it is available after the step
    abbrev pub StaysAvailable : KnownPointState → Type 0
    StaysAvailable known = KnownInside place side (known_in_step site table input world) → is_available known.client.stage ≡ true

    pub outcome_where : (known : KnownPointState) → slice_get done.ixl.known_points place ≡ Some known → is_outside known.client.stage ≡ false → StaysAvailable known
        → Outcome side was had known (took (run_links (interlocking_events site table input connection world.interlocking) network) at)
    unfolding interlocking_stepped
    outcome_where known e inside stays = record {
      more = t.more;
      are = taken_is ∙ (l.taken_is ∙ (t.are ∙ ap (λ (list : List (List ℕ)). list ++ t.more) is.had_is));
      awaited = λ awaits. by_heard (t.awaited (ap (λ (k : KnownPointState). k.client.stage) was_clocked ∙ ((clocked_side now was is.up within).0 ∙ awaits)));
    }
      where
        g : Left known (at_node (Point place) done.calls)
        g = left_all known e

        l : Leaves clients now connection place link taken heard_part.ixl.known_points (at_node (Point place) heard_part.calls) g.was known
            (so_far clients now connection place link taken (at_node (Point place) done.calls))
        l = g.leaves inside

        h : Heard g.was (at_node (Point place) heard_part.calls)
        h = heard_all g.was g.there

        t : Takes clients now connection place link taken clocks h.was g.was (so_far clients now connection place link taken (at_node (Point place) heard_part.calls))
        t = h.takes l.within

        was_clocked : h.was ≡ clocked_known_point now was
        was_clocked = same_Some h.was (clocked_known_point now was) (sym h.there ∙ clock_there)

        by_heard : HearsOne g.was.client.stage t.more → ReportOnce side known t.more
        by_heard (nothing a none) = waits (l.awaits a) none
        by_heard (report completed one) = comes one (λ at_side. stays (known_then at_side))
          where
            known_then : known.side ≡ Some side → KnownInside place side (known_in_step site table input world)
            known_then at_side other f inside_then =
                let same : other ≡ g.was = same_Some other g.was (sym f ∙ g.there)
                in (ap (λ (k : KnownPointState). is_available k.client.stage) same ∙ ap is_available completed, ap (λ (k : KnownPointState). k.side) same ∙ (sym l.side ∙ at_side))

    step_outcome : IsHeldAt table done.ixl place side → (known : KnownPointState) → slice_get done.ixl.known_points place ≡ Some known → is_outside known.client.stage ≡ false
        → Outcome side was had known (took (run_links (interlocking_events site table input connection world.interlocking) network) at)
    unfolding interlocking_stepped
    step_outcome held known e inside = outcome_where known e inside (λ heard. (heard_known move request site table is_table world is.reached place side input heard held known e inside).0)

  -- ---- any event

  -- what is so after an event
  abbrev pub Follows : List (List ℕ) → IxlState → Links → Type 0
  Follows had known_ixl network = IsHeldAt table known_ixl place side → (known : KnownPointState) → slice_get known_ixl.known_points place ≡ Some known → is_outside known.client.stage ≡ false
      → Outcome side was had known (took network at)

  same_follows : (had : List (List ℕ)) (known_ixl : IxlState) (old new : Links) → SameLists old new → Follows had known_ixl old → Follows had known_ixl new
  same_follows had known_ixl old new same follows held known e inside = subst (Outcome side was had known) (sym (same.taken at)) (follows held known e inside)

  new_follows : (had : List (List ℕ)) (begins : Beginning) (network : Links) → Follows had (new_ixl site table begins) network
  unfolding new_ixl new_client
  new_follows had begins network held known e inside =
      let made = mapped_at (new_known_point_of site begins) site.points place known e in absurd (false≢true (sym inside ∙ ap (λ (k : KnownPointState). is_outside k.client.stage) made.2))

  pub event_outcome : ((at_site : Site) (node : NodeId) (bytes : List ℕ) (one : WorldState) (links : Links) → AreLinksOf at_site one links → refusal at_site (Deliver node bytes) one ≡ None
      → (link : ℕ) → MayCallOn (names_at at_site link) (Receives bytes (connection_of (copy_of bytes one))) links)
      → (happening : Event) (world : WorldState) (network : Links) → CanBe site table happening world network → (had : List (List ℕ)) → GivenAt had world network
      → Follows had (happens site table happening world).interlocking.ixl (run_links (events_of site table happening world) network)
  event_outcome may_come happening world network can had is = event_kept talk may_come site table (GivenAt had) (Follows had) (same_follows had)
      (λ input connection one w n step given follows. step_outcome input connection one w n step had given)
      (λ begins w one n whole lists before follows. new_follows had begins n) happening world network can is first
    where
      first : Follows had world.interlocking.ixl network
      first held known e inside = record {
        more = [];
        are = is.had_is ∙ sym (append-nil had);
        awaited = λ awaits. waits (ap (λ (k : KnownPointState). k.client.stage) (same_Some known was (sym e ∙ is.there)) ∙ awaits) refl;
      }
