use Rattle.std.proofs.Common.{Option, slice_get, slice_set, sym, subst}
use Rattle.simulator_link_laws.specs.object_host.declared.input.Input.TheVariants as inputs
use Rattle.simulator_link_laws.specs.rasta_core.Links.{run_links}
use Rattle.simulator_link_laws.specs.simulator_event.declared.event.Event.TheVariants as event
use Rattle.simulator_link_laws.specs.Events.{delivery_events, events_of, restart_events, tick_events}
use Rattle.simulator_link_laws.specs.simulator_spec.Happens.{coming, delivered_to, happens, made_anew, ticked_at}
use Rattle.simulator_link_laws.specs.simulator_spec.Network.{connection_of, copy_of}
use Rattle.simulator_link_laws.specs.simulator_spec.Nodes.{Node}
use Rattle.simulator_safety.specs.Represents.{IsNetworkOf, RepresentsAfter}
use Rattle.simulator_safety.proofs.AtDetectors.{DetectorLaws, contact_is_unseen, detector_restarts, detector_steps}
use Rattle.simulator_safety.proofs.detectors.events_at_detectors_are_represented.Goals as goal

pub returns : goal.returns
unfolding happens events_of
returns c =
    let laws : DetectorLaws = record {
      calling = record { own = c.a_node_of_one_link_makes_a_step.ensures.own; others = c.a_node_of_one_link_makes_a_step.ensures.ends };
      anew = c.a_node_restarts.ensures;
      change = c.changes_are_represented.ensures.none;
    }
    in record {
      tick = λ site table node place world machine station once at none represented.
          subst (λ (o : Option Node). IsNetworkOf site (ticked_at site table o world) (run_links (tick_events site table o world) represented.network) → RepresentsAfter site table machine (ticked_at site table o world)) (sym at)
          (detector_steps laws site table world machine represented inputs.Tick 0 place world.occupancies)
          (c.networks_follow_their_worlds.ensures site table (event.Tick node) world represented.network station once represented.linked none);
      delivery = λ site table node bytes place world machine station once at none represented.
          subst (λ (o : Option Node). IsNetworkOf site (delivered_to site table bytes (connection_of (copy_of bytes world)) o world) (run_links (delivery_events site table bytes (connection_of (copy_of bytes world)) o world) represented.network)
          → RepresentsAfter site table machine (delivered_to site table bytes (connection_of (copy_of bytes world)) o world)) (sym at)
          (detector_steps laws site table world machine represented (coming bytes) (connection_of (copy_of bytes world)) place world.occupancies)
          (c.networks_follow_their_worlds.ensures site table (event.Deliver node bytes) world represented.network station once represented.linked none);
      contact = λ site table section occupancy world machine station once none represented.
          contact_is_unseen laws site table world machine represented occupancy (slice_set world.occupancies section.0 occupancy) (slice_get table.reporters section.0)
          (c.networks_follow_their_worlds.ensures site table (event.Occupy section occupancy) world represented.network station once represented.linked none);
      restart = λ site table node clock first place world machine station once at none represented.
          subst (λ (o : Option Node). IsNetworkOf site (made_anew site table (record { clock = clock; first = first }) o world) (run_links (restart_events site clock first o) represented.network)
          → RepresentsAfter site table machine (made_anew site table (record { clock = clock; first = first }) o world)) (sym at)
          (detector_restarts laws site table world machine represented (record { clock = clock; first = first }) place (slice_get site.detectors place))
          (c.networks_follow_their_worlds.ensures site table (event.Restart node clock first) world represented.network station once represented.linked none);
    }
