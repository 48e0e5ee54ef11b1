-- The windows of a station's points at their controllers: few items wait there, after every list of events.
use Rattle.simulator_recovery.proofs.Words.Basics.{◌≡◌, ℕ, ◌∙◌, ◌+◌, ◌<◌, ◌≤◌, ◌&&◌, nat_le, Bool, true, false, length, map, Some, slice_get, if◌then◌else◌, refl, sym, ap, subst, arith, false≢true, length-append, same_Some, slice_get_within}
use Rattle.simulator_recovery.proofs.Words.Links.{created, deadline, settled, reading_of, AreLinks, Links, begun, run_links, seen, LinkState, is_open, Phase}
use Rattle.simulator_recovery.proofs.Words.Controllers.{PointState}
use Rattle.simulator_recovery.proofs.Words.Interlockings.{IsTableOf, KnownPointState, Table}
use Rattle.simulator_recovery.proofs.Words.Stations.{Site, Once, IsStation, Event, IsOutsetOf, Outset, world_at, happens, AreLinksOf, IsServerAt, ServerEnd, end_of_server, names_at, server_ends, starts_at_zero, links, partners, point_link, ClockedControllerState, WorldState, events_of, links_in, IsReached}
use Rattle.simulator_recovery.proofs.Words.Recovery.{LawsBelow}
use Rattle.simulator_recovery.proofs.Lemmas.Ground.ClientItem.{partners_length}
use Rattle.simulator_recovery.proofs.Lemmas.Talk.AlwaysExpected.{Stands, stands_first, stands_on}
use Rattle.simulator_recovery.proofs.Lemmas.Ground.SectionsEvents.{CanBe, HasHeld, always_held}
use Rattle.simulator_recovery.proofs.Lemmas.Ground.AtLink.{mapped, of_second}
use Rattle.simulator_recovery.proofs.Lemmas.Ground.EndCalls.{at_place, map_length}
use Rattle.simulator_recovery.proofs.Lemmas.Windows.PointWindows.{given_few}
use Rattle.simulator_recovery.proofs.Lemmas.Windows.RoomConfirms.{Awaits, ServerGuarded}
use Rattle.simulator_recovery.proofs.Lemmas.Windows.RoomEvents.{by_event}

-- the clock rules leave what waits
settled_waiting : (now : ℕ) (l : LinkState) → (settled now l).waiting ≡ l.waiting
unfolding settled
settled_waiting now l = choose (is_open l.phase && nat_le (deadline l) now)
  where
    choose : (b : Bool) → (if b then record l { phase = Phase.Closed; closed_at = deadline l; clock = now } else record l { clock = now }).waiting ≡ l.waiting
    choose true = refl
    choose false = refl

module _ (laws : LawsBelow) (site : Site) (table : Table) (station : IsStation site) (once : Once site) (is_table : IsTableOf site table) where
  abbrev StandsAt : WorldState → Links → Type 0
  StandsAt world network = Stands laws site table station once is_table world network

  named : AreLinks (links site) (names_at site)
  named = laws.layouts_name_their_links site station once

  below_of : (place : ℕ) → place < length site.points → point_link site place < links site
  below_of place below = omega (arith, below)

  -- The client of a point gives a move where its controller has answered all others. So it never gives more than two items beyond those
  -- that it has taken, and four beyond those that the controller has taken.
  awaits_of : (world : WorldState) (network : Links) → StandsAt world network → (place : ℕ) → place < length site.points → Awaits 2 4 (seen (point_link site place) network)
  awaits_of world network s place below = record {
    answers = few;
    owes = λ connection e f.
        let safe = (laws.order_is_safe (names_at site (point_link site place)) (seen (point_link site place) network) (s.ordered (point_link site place) (below_of place below)) connection e f).1
        in let taken = ap length safe.beginning ∙ length-append (network.ends (point_link site place)).client.taken safe.rest
        in let answered = (s.answering.of_points place server.0 server.1).ever
        in omega (arith, few, taken, answered);
  }
    where
      server : (c : ClockedControllerState PointState) × (slice_get world.points place ≡ Some c)
      server = let many = s.whole.points in at_place world.points place (omega (arith, below, many))

      client : (c : KnownPointState) × (slice_get world.interlocking.ixl.known_points place ≡ Some c)
      client = let many = s.whole.clients.known_points in at_place world.interlocking.ixl.known_points place (omega (arith, below, many))

      few : length (network.ends (point_link site place)).client.given ≤ length (network.ends (point_link site place)).client.taken + 2
      few = given_few site place client.0.client _ _ (s.talking.talk.points place client.0 client.1).ever

  pub record GuardingServers (world : WorldState) (network : Links) : Type 0 where
    pub stands : StandsAt world network
    pub guards : (place : ℕ) → place < length site.points → ServerGuarded (names_at site (point_link site place)) 2 4 (seen (point_link site place) network)

  guard_first : (outset : Outset) → IsOutsetOf site outset → GuardingServers (world_at site table outset) (begun (names_at site) starts_at_zero)
  unfolding created
  guard_first outset lies = record {
    stands = stands_first laws site table station once is_table outset lies;
    guards = λ place below. record {
      timely = (laws.links_keep_time_starts (links site) (names_at site) starts_at_zero named).each (point_link site place) (below_of place below);
      ordered = laws.links_keep_order_starts (links site) (names_at site) starts_at_zero (point_link site place) (below_of place below);
      confirming = λ are_in. absurd (false≢true are_in.client);
      left = λ has_left. absurd (false≢true has_left.server);
      few = omega arith;
    };
  }

  guard_on : (happening : Event) (world : WorldState) (network : Links) → CanBe site table happening world network → GuardingServers world network
      → GuardingServers (happens site table happening world) (run_links (events_of site table happening world) network)
  guard_on happening world network can g = record {
    stands = then_stands;
    guards = λ place below. by_event laws site table named 2 4 (point_link site place) (below_of place below) network can.timely (g.guards place below)
        (awaits_of world network g.stands place below) world happening can.follows.may
        (awaits_of (happens site table happening world) (run_links (events_of site table happening world) network) then_stands place below);
  }
    where
      then_stands : StandsAt (happens site table happening world) (run_links (events_of site table happening world) network)
      then_stands = stands_on laws site table station once is_table happening world network can g.stands

  -- ---- what waits

  -- what waits at the controller's end of its link waits at the controller
  same_waiting : (world : WorldState) (network : Links) → AreLinksOf site world network → length world.signals ≡ length site.signals → (place : ℕ) → place < length site.points
      → (c : ClockedControllerState PointState) → slice_get world.points place ≡ Some c
      → (network.ends (point_link site place)).server.link.waiting ≡ c.host.link.waiting
  same_waiting world network are signals place below c there =
      ap (λ (l : LinkState). l.waiting) end.link_is ∙ settled_waiting (reading_of end.kept.clock) end.kept.link ∙ ap (λ (s : ServerEnd). s.link.waiting)
      (same_Some end.kept (end_of_server c) (sym end.there ∙ at))
    where
      id : (one : ℕ) × (slice_get (partners site) (point_link site place) ≡ Some one)
      id = at_place (partners site) (point_link site place) (subst (λ (n : ℕ). point_link site place < n) (sym (partners_length site)) (below_of place below))

      end : IsServerAt world (point_link site place) (network.ends (point_link site place)).server
      end = are.servers (point_link site place) id.0 id.1

      at : slice_get (server_ends world) (point_link site place) ≡ Some (end_of_server c)
      at =
          of_second (map end_of_server world.signals) (map end_of_server world.points) (map end_of_server world.detectors) (length site.signals) place (end_of_server c)
          (map_length end_of_server world.signals ∙ signals) (mapped end_of_server world.points place c there)

  pub few_wait : (world : WorldState) → IsReached site table world → (place : ℕ) (c : ClockedControllerState PointState) → slice_get world.points place ≡ Some c
      → length c.host.link.waiting ≤ 8
  few_wait world reached place c there =
      let g = (held_so.holds.guards place below).few
      in let answered = (held_so.holds.stands.answering.of_points place c there).ever
      in let same = ap length (same_waiting world network held_so.has.are held_so.holds.stands.whole.signals place below c there)
      in omega (arith, g, answered, same)
    where
      held_so : HasHeld laws site table station once GuardingServers guard_first guard_on world
      held_so = always_held laws site table station once GuardingServers guard_first guard_on world reached

      network : Links
      network = links_in held_so.has

      below : place < length site.points
      below = let a = slice_get_within world.points place c there in let many = held_so.holds.stands.whole.points in omega (arith, a, many)
