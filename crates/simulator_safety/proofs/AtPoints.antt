-- What happens at the controller of a point.
use Rattle.std.proofs.Common.{◌≡◌, ◌≢◌, ◌⊎◌, ◌∙◌, ℕ, ◌<◌, true, false, List, ◌++◌, length, Option, Some, None, slice_get, slice_set, slice_index_or, refl, sym, ap, subst, inl, inr}
use Rattle.std.specs.Prelude.{is_some}
use Rattle.std.proofs.lemmas.Option.{get_or_from_slice_get}
use Rattle.std.proofs.lemmas.Option.{same_Some}
use Rattle.simulator_link_laws.specs.sci_telegram.declared.message.Position.{Position}
use Rattle.simulator_link_laws.specs.sci_telegram.declared.message.Position.TheVariants as positions
use Rattle.simulator_link_laws.specs.layout.declared.entries.Point.{Point}
use Rattle.simulator_link_laws.specs.layout.Entries.{Site}
use Rattle.simulator_link_laws.specs.layout.Once.{Once}
use Rattle.simulator_link_laws.specs.layout.Station.{IsStation}
use Rattle.simulator_link_laws.specs.rasta_core.Ends.{reading_of}
use Rattle.simulator_link_laws.specs.rasta_core.Links.{Links, run_links, seen}
use Rattle.simulator_link_laws.specs.rasta_core.Names.{identity_of}
use Rattle.simulator_link_laws.specs.rasta_core.Run.{Ends, restarted}
use Rattle.simulator_link_laws.specs.rasta_core.State.{is_open}
use Rattle.simulator_link_laws.specs.rasta_core.identity.Identity.{Identity}
use Rattle.simulator_link_laws.specs.rasta_core.identity.Role.TheVariants as role
use Rattle.simulator_link_laws.specs.object_host.Host.{HostState, LinkCall, keeping}
use Rattle.simulator_link_laws.specs.object_host.Hosted.{IsNamedAs, new_host}
use Rattle.simulator_link_laws.specs.object_host.Made.{AreCallsFor, AreItems}
use Rattle.simulator_link_laws.specs.object_host.Step.{host_step}
use Rattle.simulator_link_laws.specs.object_host.declared.input.Input.{Input}
use Rattle.simulator_link_laws.specs.object_host.declared.input.Input.TheVariants as inputs
use Rattle.simulator_link_laws.specs.object_host.declared.sense.Sense.TheVariants as sense
use Rattle.simulator_link_laws.specs.object_host_laws.World.{MayHear, called_all}
use Rattle.simulator_link_laws.specs.point_ctl.Controlled.{point_behaviour}
use Rattle.simulator_link_laws.specs.point_ctl.Drive.{PointState, drives, made}
use Rattle.simulator_link_laws.specs.ixl_spec.Table.{Table}
use Rattle.simulator_link_laws.specs.object_host_laws.Point.{IsPointStep, position_told}
use Rattle.simulator_machine.specs.Chains.{MovesTo}
use Rattle.simulator_machine.specs.Invariant.{IsPointSound}
use Rattle.simulator_machine.specs.Machine.{Machine}
use Rattle.simulator_machine.specs.Point.{Point as MachinePoint}
use Rattle.simulator_machine.specs.Table.{Table as MachineTable}
use Rattle.simulator_link_laws.specs.simulator_move_laws.Lawful.{IsLawful}
use Rattle.simulator_link_laws.specs.simulator_move_laws.LinkMoves.{LinkGoes, moves_by}
use Rattle.simulator_link_laws.specs.simulator_move_laws.EndsSeen.{represented as link_represented}
use Rattle.simulator_link_laws.specs.simulator_move_laws.Ends.{AreFit, Steps}
use Rattle.simulator_link_laws.specs.simulator_move_laws.Point.{IsMovedDriven, IsPointSeen, PointGoes}
use Rattle.simulator_link_laws.specs.Events.{anew_events, host_events, point_events}
use Rattle.simulator_link_laws.specs.Nodes.{IsEndOfServer}
use Rattle.simulator_link_laws.specs.Whole.{IsWhole}
use Rattle.simulator_link_laws.specs.simulator_spec.First.{Beginning, new_point}
use Rattle.simulator_link_laws.specs.simulator_spec.Happens.{point_anew, point_stepped, stepped_at}
use Rattle.simulator_link_laws.specs.simulator_spec.Links.{AreLinksOf, names_at}
use Rattle.simulator_link_laws.specs.simulator_spec.Nodes.{links, names_of, point_link}
use Rattle.simulator_link_laws.specs.simulator_spec.Refusals.{driven_by}
use Rattle.simulator_link_laws.specs.simulator_spec.Controllers.{controller_after, controller_anew, sent_by_controller, step_of}
use Rattle.simulator_link_laws.specs.simulator_spec.State.{ClockedControllerState, WorldState}
use Rattle.simulator_safety.specs.Represents.{IsHostOf, IsNetworkOf, Represents, RepresentsAfter}
use Rattle.simulator_safety.specs.Change.{PointChanges}
use Rattle.simulator_safety.proofs.AtSignals.{named_still}
use Rattle.simulator_safety.proofs.ControllerLists.{changed_one, get_set, get_set_other, length_set, none_some, some_within, within_some}
use Rattle.simulator_safety.proofs.ControllerSteps.{LinkLaws, clients_anew, clients_stepped, host_after, host_anew, own_anew, own_stepped, servers_anew, servers_stepped}

-- the laws of points that this stands on
pub record PointLaws : Type 0 where
  pub link : LinkLaws
  pub change : (site : Site) (table : Table) (world new : WorldState) (machine : Machine) (represented : Represents site table world machine) (after : Links)
      (place : ℕ) (next : ClockedControllerState PointState) → place < length site.points → PointChanges site world new represented.network after place next
      → PointGoes (machine.points place) (IsPointSeen (seen (point_link site place) after) next.host) → RepresentsAfter site table machine new
  pub none : (table : MachineTable) (machine : Machine) → MovesTo table machine machine
  pub end : (site : Site) (world : WorldState) (network : Links) → IsWhole site world → AreLinksOf site world network → (place : ℕ) (server : ClockedControllerState PointState)
      → slice_get world.points place ≡ Some server → (point_link site place < links site) × IsEndOfServer server (network.ends (point_link site place)).server
  pub named : (site : Site) (place : ℕ) (entry : Point) → slice_get site.points place ≡ Some entry → (point_link site place < links site) × (names_at site (point_link site place) ≡ names_of site entry.id)
  pub items : (site : Site) (world : WorldState) → IsWhole site world → (place : ℕ) (server : ClockedControllerState PointState) → slice_get world.points place ≡ Some server
      → (input : Input) → AreItems (step_of point_behaviour input server).calls
  pub calls_for : (now : ℕ) (input : Input) (host : HostState PointState) → AreCallsFor input (host_step point_behaviour now input host).calls
  pub names : (now : ℕ) (input : Input) (host : HostState PointState) → IsNamedAs host (host_step point_behaviour now input host).host
  pub moves : (input : Input) (connection : ℕ) (ends : Ends) (host : HostState PointState) (point : MachinePoint) → IsPointSound point → IsPointSeen ends host point → IsMovedDriven ends input host
      → Steps input connection ends (called_all connection (host_step point_behaviour (reading_of ends.server.clock) input host).calls ends)
      → PointGoes point (IsPointSeen (called_all connection (host_step point_behaviour (reading_of ends.server.clock) input host).calls ends)
      (host_step point_behaviour (reading_of ends.server.clock) input host).host)
  pub restarts : (clock first : ℕ) (object : PointState) (ends : Ends) (host : HostState PointState) (point : MachinePoint) → AreFit ends → AreFit (restarted role.Server clock first ends)
      → IsPointSeen ends host point → object.sensed ≡ host.object.sensed → LinkGoes (moves_by false (is_open ends.server.link.phase) false) (link_represented ends) (link_represented (restarted role.Server clock first ends))
      → PointGoes point (IsPointSeen (restarted role.Server clock first ends)
      (new_host point_behaviour ends.server.link.identity host.own_name host.peer_name first clock object host.version))
  pub step : (now : ℕ) (input : Input) (host : HostState PointState) → IsPointStep now input host (host_step point_behaviour now input host)

point_is : (site : Site) (world : WorldState) (input : Input) (connection place : ℕ) (server : ClockedControllerState PointState) → slice_get world.points place ≡ Some server → point_stepped site input connection place world ≡ record world {
  points = slice_set world.points place (controller_after (step_of point_behaviour input server) connection (length world.sent) server);
  sent = world.sent ++ sent_by_controller (step_of point_behaviour input server) world.time (point_link site place) server (controller_after (step_of point_behaviour input server) connection (length world.sent) server);
}
unfolding point_stepped stepped_at
point_is site world input connection place server is = rw is refl

point_none : (site : Site) (world : WorldState) (input : Input) (connection place : ℕ) → slice_get world.points place ≡ None → point_stepped site input connection place world ≡ world
unfolding point_stepped stepped_at
point_none site world input connection place is = rw is refl

module _ (laws : PointLaws) (site : Site) (table : Table) (world : WorldState) (machine : Machine) (station : IsStation site) (once : Once site) (represented : Represents site table world machine) where
  abbrev before : Links
  before = represented.network

  unchanged : RepresentsAfter site table machine world
  unchanged = record { machine = machine; moves = laws.none _ machine; represented = represented }

  -- ---- a step, where the point may have come to stand elsewhere

  module _ (input : Input) (connection place : ℕ) (hears : point_link site place < links site → MayHear (names_at site (point_link site place)) input connection (seen (point_link site place) before)) where
    abbrev link : ℕ
    link = point_link site place

    module _ (positions : List Position) (server : ClockedControllerState PointState) (is : slice_get world.points place ≡ Some server) where
      abbrev calls : List LinkCall
      calls = (step_of point_behaviour input server).calls

      abbrev next : ClockedControllerState PointState
      next = controller_after (step_of point_behaviour input server) connection (length world.sent) server

      abbrev new : WorldState
      new = record world {
        points = slice_set world.points place next;
        positions = positions;
        sent = world.sent ++ sent_by_controller (step_of point_behaviour input server) world.time link server next;
      }

      abbrev after : Links
      after = run_links (host_events point_behaviour input connection link (Some server)) before

      below : place < length site.points
      below = subst (λ n. place < n) represented.linked.whole.points (within_some world.points place server is)

      end : (link < links site) × IsEndOfServer server (before.ends link).server
      end = laws.end site world before represented.linked.whole represented.linked.are place server is

      steps : Steps input connection (seen link before) (called_all connection calls (seen link before))
      steps = laws.link.steps (names_at site link) input connection calls (seen link before) ((laws.link.are_links site station once).each link end.0)
          (laws.link.each (links site) (names_at site) before represented.linked.lawful link end.0) (hears end.0) (laws.calls_for (reading_of server.clock) input server.host)
          (laws.items site world represented.linked.whole place server is input)

      abbrev GoesAt : ℕ → Type 0
      GoesAt clock = Steps input connection (seen link before) (called_all connection (host_step point_behaviour (reading_of clock) input server.host).calls (seen link before))
          → PointGoes (machine.points place) (IsPointSeen (called_all connection (host_step point_behaviour (reading_of clock) input server.host).calls (seen link before))
          (host_step point_behaviour (reading_of clock) input server.host).host)

      abbrev MovedAt : ℕ → Type 0
      MovedAt clock = (position_told input server.host.object.sensed ≡ server.host.object.sensed) ⊎ (is_some (drives (reading_of clock) server.host.object) ≡ true)

      host_is : (entry : Point) → slice_get site.points place ≡ Some entry → IsHostOf site entry.name next.host
      host_is entry at = subst (IsHostOf site entry.name) (sym (host_after (step_of point_behaviour input server) connection (length world.sent) server))
          (named_still site entry.name server.host (step_of point_behaviour input server).host (laws.names (reading_of server.clock) input server.host) (represented.points.hosts place entry server at is))

      sensed_then : next.host.object.sensed ≡ position_told input server.host.object.sensed
      sensed_then =
          let step = laws.step (reading_of server.clock) input server.host
          in ap (λ (h : HostState PointState). h.object.sensed) (host_after (step_of point_behaviour input server) connection (length world.sent) server) ∙ step.stands_after ∙ step.stands

      module _ (moved : MovedAt server.clock) (stands : (position : Position) → slice_get positions place ≡ Some position → position_told input server.host.object.sensed ≡ position)
          (elsewhere : (other : ℕ) → other ≢ place → slice_get positions other ≡ slice_get world.positions other) (count : length positions ≡ length world.positions) where
        goes_at : GoesAt server.clock
        goes_at = subst GoesAt end.1.clock_is (laws.moves input connection (seen link before) server.host (machine.points place) (represented.invariant.points place) (represented.points.each place server is)
            (subst MovedAt (sym end.1.clock_is) moved))

        goes : PointGoes (machine.points place) (IsPointSeen (seen link after) next.host)
        goes = subst (λ (h : HostState PointState). PointGoes (machine.points place) (IsPointSeen (seen link after) h)) (sym (host_after (step_of point_behaviour input server) connection (length world.sent) server))
            (subst (λ (e : Ends). PointGoes (machine.points place) (IsPointSeen e (step_of point_behaviour input server).host)) (sym (own_stepped laws.link.calling link connection calls before)) (goes_at steps))

        step_represented : IsNetworkOf site new after → RepresentsAfter site table machine new
        step_represented linked = laws.change site table world new machine represented after place next below (record {
          leaves = record { linked = linked; station = refl; frozen = refl; clients = clients_stepped laws.link.calling link connection calls before };
          signals = refl;
          points = refl;
          others = servers_stepped laws.link.calling link connection calls before;
          host = host_is;
          stands = λ position at. sensed_then ∙ stands position at;
          elsewhere = elsewhere;
          count = count;
        }) goes

    -- nothing that comes tells of another position
    pub point_steps : ((stood : Position) → position_told input stood ≡ stood) → IsNetworkOf site (point_stepped site input connection place world) (run_links (point_events site input connection place world) before)
        → RepresentsAfter site table machine (point_stepped site input connection place world)
    point_steps untold linked = cases (slice_get world.points place) refl linked where
      cases : (found : Option (ClockedControllerState PointState)) → slice_get world.points place ≡ found
          → IsNetworkOf site (point_stepped site input connection place world) (run_links (host_events point_behaviour input connection (point_link site place) found) before)
          → RepresentsAfter site table machine (point_stepped site input connection place world)
      cases None is linked = subst (RepresentsAfter site table machine) (sym (point_none site world input connection place is)) unchanged
      cases (Some server) is linked = subst (RepresentsAfter site table machine) (sym (point_is site world input connection place server is))
          (step_represented world.positions server is (inl (untold server.host.object.sensed)) (λ position at. untold server.host.object.sensed ∙ represented.points.sensed place server position is at) (λ other differ. refl) refl
          (subst (λ w. IsNetworkOf site w (run_links (host_events point_behaviour input connection (point_link site place) (Some server)) before)) (point_is site world input connection place server is) linked))

  -- ---- a point that is driven reaches a position

  module _ (place : ℕ) (position : Position) (below : place < length site.points) (driven : (server : ClockedControllerState PointState) → slice_get world.points place ≡ Some server → is_some (driven_by server) ≡ true) where
    abbrev contact : Input
    contact = inputs.Sense (sense.Position position)

    abbrev reached : WorldState
    reached = record world { positions = slice_set world.positions place position }

    position_is : (position other : Position) → slice_get (slice_set world.positions place position) place ≡ Some other → position ≡ other
    position_is position other at =
        let within : place < length world.positions = subst (λ n. place < n) (sym represented.points.count) below
        in same_Some position other (sym (get_set world.positions place position within) ∙ at)

    pub point_reaches : IsNetworkOf site (point_stepped site contact 0 place reached) (run_links (point_events site contact 0 place world) before)
        → RepresentsAfter site table machine (point_stepped site contact 0 place reached)
    point_reaches linked = cases (slice_get world.points place) refl linked where
      cases : (found : Option (ClockedControllerState PointState)) → slice_get world.points place ≡ found
          → IsNetworkOf site (point_stepped site contact 0 place reached) (run_links (host_events point_behaviour contact 0 (point_link site place) found) before)
          → RepresentsAfter site table machine (point_stepped site contact 0 place reached)
      cases None is linked =
          let server = some_within world.points place (subst (λ n. place < n) (sym represented.linked.whole.points) below)
          in absurd (none_some server.0 (sym is ∙ server.1))
      cases (Some server) is linked = subst (RepresentsAfter site table machine) (sym (point_is site reached contact 0 place server is))
          (step_represented contact 0 place (λ below. tt) (slice_set world.positions place position) server is (inr (driven server is)) (λ other at. position_is position other at)
          (λ other differ. get_set_other world.positions place other position differ) (length_set world.positions place position)
          (subst (λ w. IsNetworkOf site w (run_links (host_events point_behaviour contact 0 (point_link site place) (Some server)) before)) (point_is site reached contact 0 place server is) linked))

  -- ---- made anew

  module _ (begins : Beginning) (place : ℕ) where
    module _ (entry : Point) (at : slice_get site.points place ≡ Some entry) where
      abbrev anew_after : Links
      anew_after = run_links (anew_events begins.clock begins.first (point_link site place) (Some entry)) before

      abbrev position : Position
      position = slice_index_or world.positions place positions.NoEndPosition

      abbrev object : PointState
      object = made position

      from_names : (host : HostState PointState) (identity : Identity) → identity ≡ identity_of role.Server (names_of site entry.id) → IsHostOf site entry.name host
          → new_host point_behaviour identity host.own_name host.peer_name begins.first begins.clock object host.version ≡ new_point site begins position entry
      from_names host identity same is =
          ap (λ i. new_host point_behaviour i host.own_name host.peer_name begins.first begins.clock object host.version) same
          ∙ ap (λ n. new_host point_behaviour (identity_of role.Server (names_of site entry.id)) n host.peer_name begins.first begins.clock object host.version) is.own_name
          ∙ ap (λ n. new_host point_behaviour (identity_of role.Server (names_of site entry.id)) entry.name n begins.first begins.clock object host.version) is.peer_name
          ∙ ap (λ n. new_host point_behaviour (identity_of role.Server (names_of site entry.id)) entry.name site.station.name begins.first begins.clock object n) is.version

      new_is_host : IsHostOf site entry.name (new_point site begins position entry)
      unfolding new_host keeping
      new_is_host = record { own_name = refl; peer_name = refl; version = refl }

      new_stands : (new_point site begins position entry).object.sensed ≡ position
      unfolding new_host keeping
      new_stands = refl

      module _ (server : ClockedControllerState PointState) (is : slice_get world.points place ≡ Some server) where
        abbrev next_anew : ClockedControllerState PointState
        next_anew = controller_anew (new_point site begins position entry) begins.clock (length world.sent) server

        anew_below : point_link site place < links site
        anew_below = (laws.named site place entry at).0

        lawful : IsLawful (names_at site (point_link site place)) (seen (point_link site place) before)
        lawful = laws.link.each (links site) (names_at site) before represented.linked.lawful (point_link site place) anew_below

        identity_is : (before.ends (point_link site place)).server.link.identity ≡ identity_of role.Server (names_of site entry.id)
        identity_is = lawful.timely.server.identity ∙ ap (identity_of role.Server) (laws.named site place entry at).1

        stands_there : position ≡ server.host.object.sensed
        stands_there =
            let stood = some_within world.positions place (subst (λ n. place < n) (represented.linked.whole.points ∙ sym represented.points.count) (within_some world.points place server is))
            in get_or_from_slice_get world.positions place stood.0 positions.NoEndPosition stood.1 ∙ sym (represented.points.sensed place server stood.0 is stood.1)

        anew_goes : IsNetworkOf site (point_anew site begins place (Some entry) world) anew_after → PointGoes (machine.points place) (IsPointSeen (seen (point_link site place) anew_after) next_anew.host)
        anew_goes linked =
            let fit_after : AreFit (restarted role.Server begins.clock begins.first (seen (point_link site place) before)) = subst AreFit (own_anew laws.link.anew (point_link site place) begins.clock begins.first before)
            (laws.link.fit (names_at site (point_link site place)) (seen (point_link site place) anew_after) (laws.link.each (links site) (names_at site) anew_after linked.lawful (point_link site place) anew_below))
            in let goes = laws.restarts begins.clock begins.first object (seen (point_link site place) before) server.host (machine.points place) (laws.link.fit (names_at site (point_link site place)) (seen (point_link site place) before) lawful) fit_after
            (represented.points.each place server is) stands_there (laws.link.restarts (names_at site (point_link site place)) begins.clock begins.first (seen (point_link site place) before) ((laws.link.are_links site station once).each (point_link site place) anew_below) lawful.timely)
            in subst (λ (h : HostState PointState). PointGoes (machine.points place) (IsPointSeen (seen (point_link site place) anew_after) h))
            (from_names server.host (before.ends (point_link site place)).server.link.identity identity_is (represented.points.hosts place entry server at is) ∙ sym (host_anew (new_point site begins position entry) begins.clock (length world.sent) server))
            (subst (λ (e : Ends). PointGoes (machine.points place) (IsPointSeen e (new_host point_behaviour (before.ends (point_link site place)).server.link.identity server.host.own_name server.host.peer_name begins.first begins.clock object server.host.version)))
            (sym (own_anew laws.link.anew (point_link site place) begins.clock begins.first before)) goes)

        anew_represented : IsNetworkOf site (point_anew site begins place (Some entry) world) anew_after → RepresentsAfter site table machine (point_anew site begins place (Some entry) world)
        anew_represented linked = laws.change site table world (point_anew site begins place (Some entry) world) machine represented anew_after place next_anew (within_some site.points place entry at) (record {
          leaves = record { linked = linked; station = refl; frozen = refl; clients = clients_anew laws.link.anew (point_link site place) begins.clock begins.first before };
          signals = refl;
          points = changed_one (controller_anew (new_point site begins position entry) begins.clock (length world.sent)) place world.points server is;
          others = servers_anew laws.link.anew (point_link site place) begins.clock begins.first before;
          host = λ other that. subst (λ (e : Point). IsHostOf site e.name next_anew.host) (same_Some entry other (sym at ∙ that))
              (subst (IsHostOf site entry.name) (sym (host_anew (new_point site begins position entry) begins.clock (length world.sent) server)) new_is_host);
          stands = λ other that. ap (λ (h : HostState PointState). h.object.sensed) (host_anew (new_point site begins position entry) begins.clock (length world.sent) server) ∙ new_stands
              ∙ get_or_from_slice_get world.positions place other positions.NoEndPosition that;
          elsewhere = λ other differ. refl;
          count = refl;
        }) (anew_goes linked)

    pub point_restarts : IsNetworkOf site (point_anew site begins place (slice_get site.points place) world) (run_links (anew_events begins.clock begins.first (point_link site place) (slice_get site.points place)) before)
        → RepresentsAfter site table machine (point_anew site begins place (slice_get site.points place) world)
    point_restarts linked = cases (slice_get site.points place) refl linked where
      cases : (found : Option Point) → slice_get site.points place ≡ found → IsNetworkOf site (point_anew site begins place found world) (run_links (anew_events begins.clock begins.first (point_link site place) found) before)
          → RepresentsAfter site table machine (point_anew site begins place found world)
      cases None at linked = unchanged
      cases (Some entry) at linked =
          let server = some_within world.points place (subst (λ n. place < n) (sym represented.linked.whole.points) (within_some site.points place entry at))
          in anew_represented entry at server.0 server.1 linked
