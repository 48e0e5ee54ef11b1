-- The events in which the interlocking makes a step.
use Rattle.std.proofs.Common.{◌≡◌, ℕ, List, Option, Some, None, refl, sym, ap, subst}
use Rattle.simulator_link_laws.specs.layout.Entries.{Site}
use Rattle.simulator_link_laws.specs.layout.Once.{Once}
use Rattle.simulator_link_laws.specs.layout.Station.{IsStation}
use Rattle.simulator_link_laws.specs.rasta_core.EachLink.{AreTimely}
use Rattle.simulator_link_laws.specs.rasta_core.Ends.{Receives}
use Rattle.simulator_link_laws.specs.rasta_core.Links.{AreLinks, Links, MayCallOn, run_links}
use Rattle.simulator_link_laws.specs.ixl_spec.Step as ixl
use Rattle.simulator_link_laws.specs.ixl_spec.Table.{Table}
use Rattle.simulator_link_laws.specs.ixl_spec.declared.command.Command.{Command}
use Rattle.ixl_table.specs.Table.{IsTableOf}
use Rattle.simulator_link_laws.specs.simulator_event.declared.event.Event.{Event}
use Rattle.simulator_link_laws.specs.simulator_event.declared.event.Event.TheVariants as event
use Rattle.simulator_link_laws.specs.simulator_event.layout.declared.ids.NodeId.{NodeId}
use Rattle.simulator_machine.specs.Machine.{Machine}
use Rattle.simulator_link_laws.specs.Calls.{AreOfNodes}
use Rattle.simulator_link_laws.specs.Events.{FollowsBy, delivery_events, events_of, interlocking_events, tick_events}
use Rattle.simulator_link_laws.specs.Nodes.{MayComeWith}
use Rattle.simulator_link_laws.specs.Whole.{IsWhole}
use Rattle.simulator_link_laws.specs.simulator_spec.Happens.{delivered_to, happens, interlocking_stepped, ticked_at}
use Rattle.simulator_link_laws.specs.simulator_spec.Links.{AreLinksOf, names_at}
use Rattle.simulator_link_laws.specs.simulator_spec.Network.{connection_of, copy_of}
use Rattle.simulator_link_laws.specs.simulator_spec.Nodes.{Interlocking, Node, links, node_at}
use Rattle.simulator_link_laws.specs.simulator_spec.Refusals.{refusal}
use Rattle.simulator_link_laws.specs.simulator_spec.State.{WorldState}
use Rattle.simulator_link_laws.specs.simulator_spec.Interlocking.{interlocking_step}
use Rattle.simulator_safety.specs.Represents.{IsNetworkOf, Represents, RepresentsAfter}
use Rattle.simulator_safety.proofs.Step.{StepLaws, goes, step_represented}

-- the laws of events that this stands on
pub record EventLaws : Type 0 where
  pub step : StepLaws
  pub named : (site : Site) → IsStation site → Once site → AreLinks (links site) (names_at site)
  pub exactly : (site : Site) (table : Table) (happening : Event) (world : WorldState) (before : Links) → AreLinks (links site) (names_at site) → IsWhole site world
      → AreTimely (links site) (names_at site) before → AreLinksOf site world before → refusal site happening world ≡ None
      → FollowsBy site (events_of site table happening world) (happens site table happening world) before
  pub network : (site : Site) (table : Table) (happening : Event) (world : WorldState) (network : Links) → IsStation site → Once site → IsNetworkOf site world network
      → refusal site happening world ≡ None → IsNetworkOf site (happens site table happening world) (run_links (events_of site table happening world) network)
  pub of_nodes : (site : Site) (table : Table) (input : ixl.Input) (connection : ℕ) (world : WorldState) (before : Links) → AreLinks (links site) (names_at site) → IsWhole site world
      → AreTimely (links site) (names_at site) before → AreLinksOf site world before → MayComeWith site input connection before
      → AreOfNodes site (interlocking_step site table input world.interlocking).calls
  pub delivered : (site : Site) (node : NodeId) (bytes : List ℕ) (world : WorldState) (before : Links) → AreLinksOf site world before
      → refusal site (event.Deliver node bytes) world ≡ None → (link : ℕ) → MayCallOn (names_at site link) (Receives bytes (connection_of (copy_of bytes world))) before

-- what a datagram that comes is
bytes_same : (one other : List ℕ) → ixl.Datagram one ≡ ixl.Datagram other → one ≡ other
bytes_same one other same = ap bytes_in same where
  bytes_in : ixl.Input → List ℕ
  bytes_in (ixl.Datagram bytes) = bytes
  bytes_in _ = one

module _ (laws : EventLaws) (site : Site) (table : Table) (once : Once site) (station : IsStation site) (is : IsTableOf site table) (world : WorldState) (machine : Machine) (represented : Represents site table world machine) where
  are : AreLinks (links site) (names_at site)
  are = laws.named site station once

  stepped : (input : ixl.Input) (connection : ℕ) → MayComeWith site input connection represented.network
      → FollowsBy site (interlocking_events site table input connection world.interlocking) (interlocking_stepped site table input world) represented.network
      → IsNetworkOf site (interlocking_stepped site table input world) (run_links (interlocking_events site table input connection world.interlocking) represented.network)
      → RepresentsAfter site table machine (interlocking_stepped site table input world)
  stepped input connection comes follows linked =
      let done = goes laws.step site table input connection world machine are is represented comes
      in record {
        machine = done.0;
        moves = done.1.behind.moves;
        represented = step_represented laws.step site table input connection world machine are is represented follows linked
            (laws.of_nodes site table input connection world represented.network are represented.linked.whole represented.linked.lawful.timely represented.linked.are comes) done.0 done.1;
      }

  follows_by : (happening : Event) → refusal site happening world ≡ None → FollowsBy site (events_of site table happening world) (happens site table happening world) represented.network
  follows_by happening none = laws.exactly site table happening world represented.network are represented.linked.whole represented.linked.lawful.timely represented.linked.are none

  linked_by : (happening : Event) → refusal site happening world ≡ None → IsNetworkOf site (happens site table happening world) (run_links (events_of site table happening world) represented.network)
  linked_by happening none = laws.network site table happening world represented.network station once represented.linked none

  pub request_represented : (command : Command) → RepresentsAfter site table machine (happens site table (event.Request command) world)
  unfolding happens events_of refusal
  request_represented command = stepped (ixl.Commands command) 0 (λ bytes same link below. absurd (cc (same))) (follows_by (event.Request command) refl) (linked_by (event.Request command) refl)

  -- what is so where a node is the station
  pub tick_represented : (node : NodeId) → refusal site (event.Tick node) world ≡ None → node_at site node.0 ≡ Some Interlocking → RepresentsAfter site table machine (happens site table (event.Tick node) world)
  unfolding happens events_of
  tick_represented node none at = subst (λ (n : Option Node). RepresentsAfter site table machine (ticked_at site table n world)) (sym at)
      (stepped ixl.Tick 0 (λ bytes same link below. absurd (cc (same)))
      (subst (λ (n : Option Node). FollowsBy site (tick_events site table n world) (ticked_at site table n world) represented.network) at (follows_by (event.Tick node) none))
      (subst (λ (n : Option Node). IsNetworkOf site (ticked_at site table n world) (run_links (tick_events site table n world) represented.network)) at (linked_by (event.Tick node) none)))

  pub delivery_represented : (node : NodeId) (bytes : List ℕ) → refusal site (event.Deliver node bytes) world ≡ None → node_at site node.0 ≡ Some Interlocking
      → RepresentsAfter site table machine (happens site table (event.Deliver node bytes) world)
  unfolding happens events_of
  delivery_represented node bytes none at =
      subst (λ (n : Option Node). RepresentsAfter site table machine (delivered_to site table bytes (connection_of (copy_of bytes world)) n world)) (sym at)
      (stepped (ixl.Datagram bytes) (connection_of (copy_of bytes world))
      (λ other same link below. subst (λ b. MayCallOn (names_at site link) (Receives b (connection_of (copy_of bytes world))) represented.network) (bytes_same bytes other same) (laws.delivered site node bytes world represented.network represented.linked.are none link))
      (subst (λ (n : Option Node). FollowsBy site (delivery_events site table bytes (connection_of (copy_of bytes world)) n world) (delivered_to site table bytes (connection_of (copy_of bytes world)) n world) represented.network) at (follows_by (event.Deliver node bytes) none))
      (subst (λ (n : Option Node). IsNetworkOf site (delivered_to site table bytes (connection_of (copy_of bytes world)) n world) (run_links (delivery_events site table bytes (connection_of (copy_of bytes world)) n world) represented.network)) at
      (linked_by (event.Deliver node bytes) none)))
