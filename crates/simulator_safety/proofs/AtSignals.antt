-- What happens at the controller of a signal.
use Rattle.std.proofs.Common.{◌≡◌, ◌∙◌, ℕ, ◌<◌, false, List, ◌++◌, length, Option, Some, None, slice_get, slice_set, refl, sym, ap, subst}
use Rattle.std.proofs.lemmas.Option.{same_Some}
use Rattle.simulator_link_laws.specs.layout.declared.entries.Signal.{Signal}
use Rattle.simulator_link_laws.specs.layout.Entries.{Site}
use Rattle.simulator_link_laws.specs.layout.Once.{Once}
use Rattle.simulator_link_laws.specs.layout.Station.{IsStation}
use Rattle.simulator_link_laws.specs.rasta_core.Ends.{reading_of}
use Rattle.simulator_link_laws.specs.rasta_core.Links.{Links, run_links, seen}
use Rattle.simulator_link_laws.specs.rasta_core.Names.{identity_of}
use Rattle.simulator_link_laws.specs.rasta_core.Run.{Ends, restarted}
use Rattle.simulator_link_laws.specs.rasta_core.State.{is_open}
use Rattle.simulator_link_laws.specs.rasta_core.identity.Identity.{Identity}
use Rattle.simulator_link_laws.specs.rasta_core.identity.Role.TheVariants as role
use Rattle.simulator_link_laws.specs.object_host.Host.{HostState, keeping}
use Rattle.simulator_link_laws.specs.object_host.Hosted.{IsNamedAs, new_host}
use Rattle.simulator_link_laws.specs.object_host.Made.{AreCallsFor, AreItems}
use Rattle.simulator_link_laws.specs.object_host.Step.{host_step}
use Rattle.simulator_link_laws.specs.object_host.declared.input.Input.{Input}
use Rattle.simulator_link_laws.specs.object_host_laws.World.{MayHear, called_all}
use Rattle.simulator_link_laws.specs.signal_ctl.Lamp.{new_lamp}
use Rattle.simulator_link_laws.specs.signal_ctl.Signal.{SignalState, signal_behaviour}
use Rattle.simulator_link_laws.specs.ixl_spec.Table.{Table}
use Rattle.simulator_machine.specs.Chains.{MovesTo}
use Rattle.simulator_machine.specs.Invariant.{IsSignalSound}
use Rattle.simulator_machine.specs.Machine.{Machine}
use Rattle.simulator_machine.specs.Signal.{Signal as MachineSignal}
use Rattle.simulator_machine.specs.Table.{Table as MachineTable}
use Rattle.simulator_link_laws.specs.simulator_move_laws.Lawful.{IsLawful}
use Rattle.simulator_link_laws.specs.simulator_move_laws.LinkMoves.{LinkGoes, moves_by}
use Rattle.simulator_link_laws.specs.simulator_move_laws.EndsSeen.{represented as link_represented}
use Rattle.simulator_link_laws.specs.simulator_move_laws.Ends.{AreFit, Steps}
use Rattle.simulator_link_laws.specs.simulator_move_laws.Signal.{IsSignalSeen, SignalGoes}
use Rattle.simulator_link_laws.specs.Events.{anew_events, host_events, signal_events}
use Rattle.simulator_link_laws.specs.Nodes.{IsEndOfServer}
use Rattle.simulator_link_laws.specs.Whole.{IsWhole}
use Rattle.simulator_link_laws.specs.simulator_spec.First.{Beginning, new_signal}
use Rattle.simulator_link_laws.specs.simulator_spec.Happens.{signal_anew, signal_stepped, stepped_at}
use Rattle.simulator_link_laws.specs.simulator_spec.Links.{AreLinksOf, names_at}
use Rattle.simulator_link_laws.specs.simulator_spec.Nodes.{links, names_of}
use Rattle.simulator_link_laws.specs.simulator_spec.Controllers.{controller_after, controller_anew, sent_by_controller, step_of}
use Rattle.simulator_link_laws.specs.simulator_spec.State.{ClockedControllerState, WorldState}
use Rattle.simulator_safety.specs.Represents.{IsHostOf, IsNetworkOf, Represents, RepresentsAfter}
use Rattle.simulator_safety.specs.Change.{SignalChanges}
use Rattle.simulator_safety.proofs.ControllerLists.{changed_one, some_within, within_some}
use Rattle.simulator_safety.proofs.ControllerSteps.{LinkLaws, clients_anew, clients_stepped, host_after, host_anew, own_anew, own_stepped, servers_anew, servers_stepped}

-- the laws of signals that this stands on
pub record SignalLaws : Type 0 where
  pub link : LinkLaws
  pub change : (site : Site) (table : Table) (world new : WorldState) (machine : Machine) (represented : Represents site table world machine) (after : Links)
      (place : ℕ) (next : ClockedControllerState SignalState) → place < length site.signals → SignalChanges site world new represented.network after place next
      → SignalGoes (machine.signals place) (IsSignalSeen (seen place after) next.host) → RepresentsAfter site table machine new
  pub none : (table : MachineTable) (machine : Machine) → MovesTo table machine machine
  pub end : (site : Site) (world : WorldState) (network : Links) → IsWhole site world → AreLinksOf site world network → (place : ℕ) (server : ClockedControllerState SignalState)
      → slice_get world.signals place ≡ Some server → (place < links site) × IsEndOfServer server (network.ends place).server
  pub named : (site : Site) (place : ℕ) (entry : Signal) → slice_get site.signals place ≡ Some entry → (place < links site) × (names_at site place ≡ names_of site entry.id)
  pub items : (site : Site) (world : WorldState) → IsWhole site world → (place : ℕ) (server : ClockedControllerState SignalState) → slice_get world.signals place ≡ Some server
      → (input : Input) → AreItems (step_of signal_behaviour input server).calls
  pub calls_for : (now : ℕ) (input : Input) (host : HostState SignalState) → AreCallsFor input (host_step signal_behaviour now input host).calls
  pub names : (now : ℕ) (input : Input) (host : HostState SignalState) → IsNamedAs host (host_step signal_behaviour now input host).host
  pub moves : (input : Input) (connection : ℕ) (ends : Ends) (host : HostState SignalState) (signal : MachineSignal) → IsSignalSound signal → IsSignalSeen ends host signal
      → Steps input connection ends (called_all connection (host_step signal_behaviour (reading_of ends.server.clock) input host).calls ends)
      → SignalGoes signal (IsSignalSeen (called_all connection (host_step signal_behaviour (reading_of ends.server.clock) input host).calls ends)
      (host_step signal_behaviour (reading_of ends.server.clock) input host).host)
  pub restarts : (clock first : ℕ) (object : SignalState) (ends : Ends) (host : HostState SignalState) (signal : MachineSignal) → AreFit ends → AreFit (restarted role.Server clock first ends)
      → IsSignalSeen ends host signal → LinkGoes (moves_by false (is_open ends.server.link.phase) false) (link_represented ends) (link_represented (restarted role.Server clock first ends))
      → SignalGoes signal (IsSignalSeen (restarted role.Server clock first ends)
      (new_host signal_behaviour ends.server.link.identity host.own_name host.peer_name first clock object host.version))

-- a host that keeps its names is that of its controller still
pub named_still : {Object : Type 0} (site : Site) (name : List ℕ) (old new : HostState Object) → IsNamedAs old new → IsHostOf site name old → IsHostOf site name new
named_still site name old new named is = record {
  own_name = named.own_name ∙ is.own_name;
  peer_name = named.peer_name ∙ is.peer_name;
  version = named.version ∙ is.version;
}

signal_is : (site : Site) (world : WorldState) (input : Input) (connection place : ℕ) (server : ClockedControllerState SignalState) → slice_get world.signals place ≡ Some server → signal_stepped site input connection place world ≡ record world {
  signals = slice_set world.signals place (controller_after (step_of signal_behaviour input server) connection (length world.sent) server);
  sent = world.sent ++ sent_by_controller (step_of signal_behaviour input server) world.time place server (controller_after (step_of signal_behaviour input server) connection (length world.sent) server);
}
unfolding signal_stepped stepped_at
signal_is site world input connection place server is = rw is refl

signal_none : (site : Site) (world : WorldState) (input : Input) (connection place : ℕ) → slice_get world.signals place ≡ None → signal_stepped site input connection place world ≡ world
unfolding signal_stepped stepped_at
signal_none site world input connection place is = rw is refl

module _ (laws : SignalLaws) (site : Site) (table : Table) (world : WorldState) (machine : Machine) (station : IsStation site) (once : Once site) (represented : Represents site table world machine) where
  abbrev before : Links
  before = represented.network

  unchanged : RepresentsAfter site table machine world
  unchanged = record { machine = machine; moves = laws.none _ machine; represented = represented }

  -- ---- a step

  module _ (input : Input) (connection place : ℕ) (hears : place < links site → MayHear (names_at site place) input connection (seen place before)) where
    module _ (server : ClockedControllerState SignalState) (is : slice_get world.signals place ≡ Some server) where
      abbrev next : ClockedControllerState SignalState
      next = controller_after (step_of signal_behaviour input server) connection (length world.sent) server

      abbrev new : WorldState
      new = record world {
        signals = slice_set world.signals place next;
        sent = world.sent ++ sent_by_controller (step_of signal_behaviour input server) world.time place server next;
      }

      abbrev after : Links
      after = run_links (host_events signal_behaviour input connection place (Some server)) before

      below : place < length site.signals
      below = subst (λ n. place < n) represented.linked.whole.signals (within_some world.signals place server is)

      end : (place < links site) × IsEndOfServer server (before.ends place).server
      end = laws.end site world before represented.linked.whole represented.linked.are place server is

      steps : Steps input connection (seen place before) (called_all connection (step_of signal_behaviour input server).calls (seen place before))
      steps = laws.link.steps (names_at site place) input connection (step_of signal_behaviour input server).calls (seen place before) ((laws.link.are_links site station once).each place end.0)
          (laws.link.each (links site) (names_at site) before represented.linked.lawful place end.0) (hears end.0) (laws.calls_for (reading_of server.clock) input server.host)
          (laws.items site world represented.linked.whole place server is input)

      abbrev GoesAt : ℕ → Type 0
      GoesAt clock = Steps input connection (seen place before) (called_all connection (host_step signal_behaviour (reading_of clock) input server.host).calls (seen place before))
          → SignalGoes (machine.signals place) (IsSignalSeen (called_all connection (host_step signal_behaviour (reading_of clock) input server.host).calls (seen place before))
          (host_step signal_behaviour (reading_of clock) input server.host).host)

      goes_at : GoesAt server.clock
      goes_at = subst GoesAt end.1.clock_is (laws.moves input connection (seen place before) server.host (machine.signals place) (represented.invariant.signals place) (represented.signals.each place server is))

      goes : SignalGoes (machine.signals place) (IsSignalSeen (seen place after) next.host)
      goes = subst (λ (h : HostState SignalState). SignalGoes (machine.signals place) (IsSignalSeen (seen place after) h)) (sym (host_after (step_of signal_behaviour input server) connection (length world.sent) server))
          (subst (λ (e : Ends). SignalGoes (machine.signals place) (IsSignalSeen e (step_of signal_behaviour input server).host))
          (sym (own_stepped laws.link.calling place connection (step_of signal_behaviour input server).calls before)) (goes_at steps))

      host_is : (entry : Signal) → slice_get site.signals place ≡ Some entry → IsHostOf site entry.name next.host
      host_is entry at = subst (IsHostOf site entry.name) (sym (host_after (step_of signal_behaviour input server) connection (length world.sent) server))
          (named_still site entry.name server.host (step_of signal_behaviour input server).host (laws.names (reading_of server.clock) input server.host) (represented.signals.hosts place entry server at is))

      step_represented : IsNetworkOf site new after → RepresentsAfter site table machine new
      step_represented linked = laws.change site table world new machine represented after place next below (record {
        leaves = record { linked = linked; station = refl; frozen = refl; clients = clients_stepped laws.link.calling place connection (step_of signal_behaviour input server).calls before };
        signals = refl;
        points = refl;
        positions = refl;
        others = servers_stepped laws.link.calling place connection (step_of signal_behaviour input server).calls before;
        host = host_is;
      }) goes

    pub signal_steps : IsNetworkOf site (signal_stepped site input connection place world) (run_links (signal_events input connection place world) before)
        → RepresentsAfter site table machine (signal_stepped site input connection place world)
    signal_steps linked = cases (slice_get world.signals place) refl linked where
      cases : (found : Option (ClockedControllerState SignalState)) → slice_get world.signals place ≡ found
          → IsNetworkOf site (signal_stepped site input connection place world) (run_links (host_events signal_behaviour input connection place found) before)
          → RepresentsAfter site table machine (signal_stepped site input connection place world)
      cases None is linked = subst (RepresentsAfter site table machine) (sym (signal_none site world input connection place is)) unchanged
      cases (Some server) is linked = subst (RepresentsAfter site table machine) (sym (signal_is site world input connection place server is))
          (step_represented server is (subst (λ w. IsNetworkOf site w (run_links (host_events signal_behaviour input connection place (Some server)) before)) (signal_is site world input connection place server is) linked))

  -- ---- made anew

  module _ (begins : Beginning) (place : ℕ) where
    module _ (entry : Signal) (at : slice_get site.signals place ≡ Some entry) where
      abbrev anew_after : Links
      anew_after = run_links (anew_events begins.clock begins.first place (Some entry)) before

      abbrev object : SignalState
      object = record { lamp = new_lamp; owes = false }

      from_names : (host : HostState SignalState) (identity : Identity) → identity ≡ identity_of role.Server (names_of site entry.id) → IsHostOf site entry.name host
          → new_host signal_behaviour identity host.own_name host.peer_name begins.first begins.clock object host.version ≡ new_signal site begins entry
      from_names host identity same is =
          ap (λ i. new_host signal_behaviour i host.own_name host.peer_name begins.first begins.clock object host.version) same
          ∙ ap (λ n. new_host signal_behaviour (identity_of role.Server (names_of site entry.id)) n host.peer_name begins.first begins.clock object host.version) is.own_name
          ∙ ap (λ n. new_host signal_behaviour (identity_of role.Server (names_of site entry.id)) entry.name n begins.first begins.clock object host.version) is.peer_name
          ∙ ap (λ n. new_host signal_behaviour (identity_of role.Server (names_of site entry.id)) entry.name site.station.name begins.first begins.clock object n) is.version

      new_is_host : IsHostOf site entry.name (new_signal site begins entry)
      unfolding new_host keeping
      new_is_host = record { own_name = refl; peer_name = refl; version = refl }

      module _ (server : ClockedControllerState SignalState) (is : slice_get world.signals place ≡ Some server) where
        abbrev next_anew : ClockedControllerState SignalState
        next_anew = controller_anew (new_signal site begins entry) begins.clock (length world.sent) server

        anew_below : place < links site
        anew_below = (laws.named site place entry at).0

        lawful : IsLawful (names_at site place) (seen place before)
        lawful = laws.link.each (links site) (names_at site) before represented.linked.lawful place anew_below

        identity_is : (before.ends place).server.link.identity ≡ identity_of role.Server (names_of site entry.id)
        identity_is = lawful.timely.server.identity ∙ ap (identity_of role.Server) (laws.named site place entry at).1

        anew_goes : IsNetworkOf site (signal_anew site begins place (Some entry) world) anew_after → SignalGoes (machine.signals place) (IsSignalSeen (seen place anew_after) next_anew.host)
        anew_goes linked =
            let fit_after : AreFit (restarted role.Server begins.clock begins.first (seen place before)) = subst AreFit (own_anew laws.link.anew place begins.clock begins.first before)
            (laws.link.fit (names_at site place) (seen place anew_after) (laws.link.each (links site) (names_at site) anew_after linked.lawful place anew_below))
            in let goes = laws.restarts begins.clock begins.first object (seen place before) server.host (machine.signals place) (laws.link.fit (names_at site place) (seen place before) lawful) fit_after
            (represented.signals.each place server is) (laws.link.restarts (names_at site place) begins.clock begins.first (seen place before) ((laws.link.are_links site station once).each place anew_below) lawful.timely)
            in subst (λ (h : HostState SignalState). SignalGoes (machine.signals place) (IsSignalSeen (seen place anew_after) h))
            (from_names server.host (before.ends place).server.link.identity identity_is (represented.signals.hosts place entry server at is) ∙ sym (host_anew (new_signal site begins entry) begins.clock (length world.sent) server))
            (subst (λ (e : Ends). SignalGoes (machine.signals place) (IsSignalSeen e (new_host signal_behaviour (before.ends place).server.link.identity server.host.own_name server.host.peer_name begins.first begins.clock object server.host.version)))
            (sym (own_anew laws.link.anew place begins.clock begins.first before)) goes)

        anew_represented : IsNetworkOf site (signal_anew site begins place (Some entry) world) anew_after → RepresentsAfter site table machine (signal_anew site begins place (Some entry) world)
        anew_represented linked = laws.change site table world (signal_anew site begins place (Some entry) world) machine represented anew_after place next_anew (within_some site.signals place entry at) (record {
          leaves = record { linked = linked; station = refl; frozen = refl; clients = clients_anew laws.link.anew place begins.clock begins.first before };
          signals = changed_one (controller_anew (new_signal site begins entry) begins.clock (length world.sent)) place world.signals server is;
          points = refl;
          positions = refl;
          others = servers_anew laws.link.anew place begins.clock begins.first before;
          host = λ other that. subst (λ (e : Signal). IsHostOf site e.name next_anew.host) (same_Some entry other (sym at ∙ that))
              (subst (IsHostOf site entry.name) (sym (host_anew (new_signal site begins entry) begins.clock (length world.sent) server)) new_is_host);
        }) (anew_goes linked)

    pub signal_restarts : IsNetworkOf site (signal_anew site begins place (slice_get site.signals place) world) (run_links (anew_events begins.clock begins.first place (slice_get site.signals place)) before)
        → RepresentsAfter site table machine (signal_anew site begins place (slice_get site.signals place) world)
    signal_restarts linked = cases (slice_get site.signals place) refl linked where
      cases : (found : Option Signal) → slice_get site.signals place ≡ found → IsNetworkOf site (signal_anew site begins place found world) (run_links (anew_events begins.clock begins.first place found) before)
          → RepresentsAfter site table machine (signal_anew site begins place found world)
      cases None at linked = unchanged
      cases (Some entry) at linked =
          let server = some_within world.signals place (subst (λ n. place < n) (sym represented.linked.whole.signals) (within_some site.signals place entry at))
          in anew_represented entry at server.0 server.1 linked
