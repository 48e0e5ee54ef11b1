-- The interlocking is made anew.
use Rattle.std.proofs.Common.{◌≡◌, ◌∙◌, ◌*◌, ◌+◌, ◌<◌, ◌≤◌, ℕ, zero, suc, Bool, true, false, nat_lt, List, [], ◌∷◌, length, Option, Some, None, refl, sym, ap, subst, arith, if◌then◌else◌}
use Rattle.std.specs.Prelude.{◌==◌, slice_get}
use Rattle.std.proofs.lemmas.Bool.Decides.{nat_tests}
use Rattle.std.proofs.lemmas.Option.{same_Some}
use Rattle.simulator_link_laws.specs.layout.Entries.{Site}
use Rattle.simulator_link_laws.specs.layout.Once.{Once}
use Rattle.simulator_link_laws.specs.layout.Station.{IsStation}
use Rattle.simulator_link_laws.specs.layout.declared.entries.Point.{Point as PointEntry}
use Rattle.simulator_link_laws.specs.rasta_core.Ends.{end_restarted, reading_of}
use Rattle.simulator_link_laws.specs.rasta_core.Events.{Restarts, happened}
use Rattle.simulator_link_laws.specs.rasta_core.Links.{Links, run_links, seen}
use Rattle.simulator_link_laws.specs.rasta_core.Nodes.{is_among, restarts_of}
use Rattle.simulator_link_laws.specs.rasta_core.Parameters.{greatest}
use Rattle.simulator_link_laws.specs.rasta_core.Run.{Ends, restarted}
use Rattle.simulator_link_laws.specs.rasta_core.identity.Role.{Role}
use Rattle.simulator_link_laws.specs.rasta_core.identity.Role.TheVariants as role
use Rattle.simulator_link_laws.specs.object_host.Host.{HostState}
use Rattle.simulator_link_laws.specs.point_ctl.Drive.{PointState}
use Rattle.simulator_link_laws.specs.signal_ctl.Signal.{SignalState}
use Rattle.simulator_link_laws.specs.ixl_client.Client.{new_client}
use Rattle.simulator_link_laws.specs.ixl_spec.State.{IxlState, KnownPointState}
use Rattle.simulator_link_laws.specs.ixl_spec.Table.{Table}
use Rattle.ixl_table.specs.Table.{IsTableOf}
use Rattle.simulator_link_laws.specs.simulator_event.layout.declared.ids.NodeId.{NodeId}
use Rattle.simulator_link_laws.specs.simulator_event.refused.Refused.{Refused}
use Rattle.simulator_link_laws.specs.simulator_event.refused.Refused.TheVariants as refused
use Rattle.simulator_machine.specs.Chains.{MovesTo}
use Rattle.simulator_machine.specs.Invariant.{Invariant}
use Rattle.simulator_machine.specs.Link.{Closes, Link, link_after}
use Rattle.simulator_machine.specs.Machine.{Machine, made_anew}
use Rattle.simulator_machine.specs.Point.{Point as MachinePoint, PointLink, point_after}
use Rattle.simulator_machine.specs.Signal.{Signal as MachineSignal, SignalLink, signal_after}
use Rattle.simulator_machine.specs.Table.{Table as MachineTable}
use Rattle.simulator_link_laws.specs.simulator_move_laws.Items.{aspects_in, moves_in, reports_in}
use Rattle.simulator_link_laws.specs.simulator_move_laws.Flows.{of_server, reports_given}
use Rattle.simulator_link_laws.specs.simulator_move_laws.EndsSeen.{represented, server_of}
use Rattle.simulator_link_laws.specs.simulator_move_laws.Point.{IsPointSeen}
use Rattle.simulator_link_laws.specs.simulator_move_laws.Signal.{IsSignalSeen}
use Rattle.simulator_link_laws.specs.simulator_move_laws.Onward.{IsMadeAnew}
use Rattle.simulator_link_laws.specs.simulator_move_laws.Made.{IsJustMade}
use Rattle.simulator_link_laws.specs.simulator_move_laws.Rows.{machine_table}
use Rattle.simulator_link_laws.specs.simulator_move_laws.Sees.{Given, Sees}
use Rattle.simulator_link_laws.specs.Events.{numbers_below, restart_events}
use Rattle.simulator_link_laws.specs.simulator_spec.First.{Beginning, new_ixl, new_known_signal_of, new_route_of, new_known_point_of}
use Rattle.simulator_link_laws.specs.simulator_spec.Nodes.{Interlocking, links, point_link}
use Rattle.simulator_link_laws.specs.simulator_spec.Refusals.{is_missing, refused_where}
use Rattle.simulator_link_laws.specs.simulator_spec.State.{WorldState}
use Rattle.simulator_link_laws.specs.simulator_spec.Interlocking.{held_of}
use Rattle.simulator_link_laws.specs.simulator_spec.Happens as world_run
use Rattle.simulator_safety.specs.Represents.{AreFrozen, ArePointsSeen, AreSignalsSeen, IsNetworkOf, Represents, RepresentsAfter, given_in}
use Rattle.simulator_safety.proofs.StationEnds.{EndLaws, server_represented}
use Rattle.simulator_safety.proofs.StationLists.{get_map, length_map, within_some}

-- ---- each link sees a restart of its client

are_among : (count link : ℕ) → link < count → is_among link (numbers_below count) ≡ true
are_among zero link below = absurd (omega arith)
are_among (suc n) link below = cases (link == n) refl (are_among n link) where
  cases : (b : Bool) → (link == n) ≡ b → (link < n → is_among link (numbers_below n) ≡ true) → (if b then true else is_among link (numbers_below n)) ≡ true
  cases true e inner = refl
  cases false e inner = let less : link < n = grind (arith, nat_tests) in inner less

reads_anew : (clock : ℕ) → reading_of (clock * 1000) ≡ clock
reads_anew clock = omega arith

below_greatest : (clock : ℕ) → clock * 1000 ≤ 9000000000000000 → clock < greatest
below_greatest clock within = omega arith

not_refused : (fails : Bool) (why : Refused) (otherwise : Option Refused) → refused_where fails why otherwise ≡ None → (fails ≡ false) × (otherwise ≡ None)
not_refused true why otherwise e = absurd (cc (e))
not_refused false why otherwise e = (refl, e)

not_above : (a b : ℕ) → nat_lt a b ≡ false → b ≤ a
not_above a b e = grind (arith, nat_tests)

pub restart_within : (site : Site) (node : NodeId) (clock : ℕ)
    → refused_where (is_missing node.0 site) refused.NoSuchNode (refused_where (nat_lt 9000000000000000 (clock * 1000)) refused.ClockLimit None) ≡ None → clock * 1000 ≤ 9000000000000000
restart_within site node clock none =
    not_above 9000000000000000 (clock * 1000) (not_refused (nat_lt 9000000000000000 (clock * 1000)) refused.ClockLimit None (not_refused (is_missing node.0 site) refused.NoSuchNode _ none).1).0

-- ---- a controller when its client is made anew

pub record AnewLaws : Type 0 where
  pub ends : EndLaws
  pub node : (who : Role) (clock : ℕ) (firsts : ℕ → ℕ) (numbers : List ℕ) (network : Links) (link : ℕ)
      → seen link (run_links (restarts_of who clock firsts numbers) network) ≡ (if is_among link numbers then restarted who clock (firsts link) (seen link network) else seen link network)
  pub closes : (clock first : ℕ) (ends : Ends) → represented (happened (Restarts role.Client clock first) ends) ≡ link_after Closes (represented ends)
  pub anew : (now later : ℕ) (table : MachineTable) (old new : IxlState) (given new_given : Given) (machine : Machine) → Sees now old given machine
      → IsJustMade new → new.created ≡ later → later < greatest → length new.known_signals ≡ length old.known_signals
      → IsMadeAnew now later table old new new_given machine (made_anew machine)
  pub made : (site : Site) (table : Table) (begins : Beginning) → IsJustMade (new_ixl site table begins)
  pub frozen : (site : Site) (table : Table) (world : WorldState) (machine : Machine) → IsStation site → IsTableOf site table
      → Represents site table world machine → AreFrozen site table (held_of table world.interlocking world.frozen) (made_anew machine)
  pub reached : (table : Table) (old new : Machine) → Invariant (machine_table table) old → MovesTo (machine_table table) old new → Invariant (machine_table table) new

module _ (laws : AnewLaws) (clock first : ℕ) (ends : Ends) where
  abbrev new : Ends
  new = restarted role.Client clock first ends

  server_stays : new.server ≡ ends.server
  unfolding restarted
  server_stays = refl

  given_stays : new.client.given ≡ ends.client.given
  unfolding restarted end_restarted
  given_stays = refl

  link_closes : (link : Link) → link ≡ represented ends → link_after Closes link ≡ represented new
  link_closes link is = ap (link_after Closes) is ∙ sym (laws.closes clock first ends)

  server_kept : server_of new ≡ server_of ends
  server_kept = sym (server_represented new) ∙ ap (λ (l : Link). l.server) (laws.closes clock first ends) ∙ server_represented ends

  reports_stay : reports_given new ≡ reports_given ends
  reports_stay = ap (λ s. of_server s new.server.given) server_kept ∙ ap (λ e. of_server (server_of ends) e.given) server_stays

  pub signal_anew : (host : HostState SignalState) (signal : MachineSignal) → IsSignalSeen ends host signal → IsSignalSeen new host (signal_after (SignalLink Closes) signal)
  signal_anew host signal is = laws.ends.signal_stays ends new host signal (signal_after (SignalLink Closes) signal) server_stays is (link_closes signal.link is.link)
      (is.given ∙ ap aspects_in (sym given_stays)) (λ opened. refl)

  pub point_anew : (host : HostState PointState) (point : MachinePoint) → IsPointSeen ends host point → IsPointSeen new host (point_after (PointLink Closes) point)
  point_anew host point is = laws.ends.point_stays ends new host point (point_after (PointLink Closes) point) server_stays is (link_closes point.link is.link)
      (is.given ∙ ap (λ g. length (moves_in g)) (sym given_stays)) (λ opened. refl) (is.made ∙ ap reports_in (sym reports_stay)) refl refl

-- ---- the world

module _ (laws : AnewLaws) (site : Site) (table : Table) (once : Once site) (station : IsStation site) (is : IsTableOf site table) (begins : Beginning) (world : WorldState) (machine : Machine)
    (represented_is : Represents site table world machine) (within : begins.clock * 1000 ≤ 9000000000000000) where
  abbrev network : Links
  network = represented_is.network

  abbrev after : Links
  after = run_links (restart_events site begins.clock begins.first (Some Interlocking)) network

  abbrev fresh : IxlState
  fresh = new_ixl site table begins

  abbrev anew : WorldState
  anew = world_run.made_anew site table begins (Some Interlocking) world

  link_anew : (link : ℕ) → link < links site → seen link after ≡ restarted role.Client begins.clock begins.first (seen link network)
  link_anew link below = laws.node role.Client begins.clock (λ link. begins.first) (numbers_below (links site)) network link
      ∙ ap (λ b. if b then restarted role.Client begins.clock begins.first (seen link network) else seen link network) (are_among (links site) link below)

  signal_below : (place : ℕ) → place < length world.signals → place < links site
  signal_below place inside = sums (length site.signals) (length site.points) (length site.detectors) (subst (λ n. place < n) represented_is.linked.whole.signals inside) where
    sums : (a b c : ℕ) → place < a → place < a + b + c
    sums a b c less = omega arith

  point_below : (place : ℕ) → place < length world.points → point_link site place < links site
  point_below place inside = sums (length site.signals) (length site.points) (length site.detectors) (subst (λ n. place < n) represented_is.linked.whole.points inside) where
    sums : (a b c : ℕ) → place < b → a + place < a + b + c
    sums a b c less = omega arith

  signals_anew : AreSignalsSeen site after world.signals (made_anew machine)
  signals_anew = record {
    each = λ place server at. subst (λ (e : Ends). IsSignalSeen e server.host ((made_anew machine).signals place)) (sym (link_anew place (signal_below place (within_some world.signals place server at))))
        (signal_anew laws begins.clock begins.first (seen place network) server.host (machine.signals place) (represented_is.signals.each place server at));
    hosts = represented_is.signals.hosts;
  }

  points_anew : ArePointsSeen site after world.points world.positions (made_anew machine)
  points_anew = record {
    each = λ place server at. subst (λ (e : Ends). IsPointSeen e server.host ((made_anew machine).points place)) (sym (link_anew (point_link site place) (point_below place (within_some world.points place server at))))
        (point_anew laws begins.clock begins.first (seen (point_link site place) network) server.host (machine.points place) (represented_is.points.each place server at));
    hosts = represented_is.points.hosts;
    sensed = represented_is.points.sensed;
    count = represented_is.points.count;
  }

  created_is : fresh.created ≡ begins.clock
  unfolding new_ixl
  created_is = refl

  known_signals_are : length fresh.known_signals ≡ length site.signals
  unfolding new_ixl
  known_signals_are = length_map (new_known_signal_of site begins) site.signals

  routes_are : length fresh.routes ≡ length table.rows
  unfolding new_ixl
  routes_are = length_map new_route_of table.rows

  is_anew : IsMadeAnew (reading_of world.interlocking.clock) begins.clock (machine_table table) world.interlocking.ixl fresh (given_in site after) machine (made_anew machine)
  is_anew = laws.anew (reading_of world.interlocking.clock) begins.clock (machine_table table) world.interlocking.ixl fresh (given_in site network) (given_in site after) machine
      represented_is.station.sees (laws.made site table begins) created_is (below_greatest begins.clock within) (known_signals_are ∙ sym represented_is.linked.whole.clients.known_signals)

  objects_anew : (place : ℕ) (entry : PointEntry) (known_point : KnownPointState) → slice_get site.points place ≡ Some entry → slice_get fresh.known_points place ≡ Some known_point → known_point.client.peer.objects ≡ entry.name ∷ []
  unfolding new_ixl new_client
  objects_anew place entry known_point there at =
      let found = get_map (new_known_point_of site begins) site.points place known_point at
      in let same : found.0 ≡ entry = same_Some found.0 entry (sym found.1 ∙ there)
      in subst (λ (s : KnownPointState). s.client.peer.objects ≡ entry.name ∷ []) (ap (new_known_point_of site begins) (sym same) ∙ found.2) refl

  seen_anew : IsNetworkOf site anew after → Represents site table anew (made_anew machine)
  seen_anew linked = record {
    network = after;
    linked = linked;
    signals = signals_anew;
    points = points_anew;
    station = record {
      sees = subst (λ n. Sees n fresh (given_in site after) (made_anew machine)) (sym (reads_anew begins.clock)) is_anew.sees;
      routes = routes_are;
      objects = objects_anew;
      clock = within;
    };
    frozen = laws.frozen site table world machine station is represented_is;
    invariant = laws.reached table machine (made_anew machine) represented_is.invariant is_anew.keeps.moves;
  }

  pub restart_represented : IsNetworkOf site anew after → (reached : RepresentsAfter site table machine anew) × (reached.machine ≡ made_anew machine)
  restart_represented linked = (record { machine = made_anew machine; moves = is_anew.keeps.moves; represented = seen_anew linked }, refl)
