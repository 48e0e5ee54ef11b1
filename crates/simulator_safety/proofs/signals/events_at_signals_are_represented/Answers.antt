use Rattle.std.proofs.Common.{Option, sym, subst}
use Rattle.simulator_link_laws.specs.object_host.declared.input.Input.TheVariants as inputs
use Rattle.simulator_link_laws.specs.rasta_core.Links.{run_links}
use Rattle.simulator_link_laws.specs.rasta_core.identity.Role.TheVariants as role
use Rattle.simulator_link_laws.specs.simulator_event.declared.event.Event.TheVariants as event
use Rattle.simulator_link_laws.specs.Events.{delivery_events, events_of, restart_events, tick_events}
use Rattle.simulator_link_laws.specs.simulator_spec.Happens.{coming, delivered_to, happens, made_anew, ticked_at}
use Rattle.simulator_link_laws.specs.simulator_spec.Network.{connection_of, copy_of}
use Rattle.simulator_link_laws.specs.simulator_spec.Nodes.{Node}
use Rattle.simulator_safety.specs.Represents.{IsNetworkOf, RepresentsAfter}
use Rattle.simulator_safety.proofs.AtSignals.{SignalLaws, signal_restarts, signal_steps}
use Rattle.simulator_safety.proofs.signals.events_at_signals_are_represented.Goals as goal

pub returns : goal.returns
unfolding happens events_of
returns c =
    let laws : SignalLaws = record {
      link = record {
        calling = record { own = c.a_node_of_one_link_makes_a_step.ensures.own; others = c.a_node_of_one_link_makes_a_step.ensures.ends };
        anew = c.a_node_restarts.ensures;
        are_links = c.layouts_name_their_links.ensures;
        each = c.lawful_worlds_stay_lawful.ensures.each;
        fit = c.lawful_ends_are_fit.ensures.fit;
        steps = c.lawful_ends_are_fit.ensures.steps;
        restarts = c.restarts_of_links_are_moves.ensures.server;
      };
      change = c.changes_are_represented.ensures.signal;
      none = c.lists_of_moves_compose.ensures.none;
      end = c.ends_are_those_of_the_nodes.ensures.signal;
      named = c.links_are_named_by_their_controllers.ensures.signal;
      items = c.hosts_say_items.ensures.signal;
      calls_for = c.step_is_calls.ensures.first;
      names = c.steps_keep_a_host.ensures.names;
      moves = c.steps_of_signals_are_moves.ensures;
      restarts = c.signals_pass_time_and_restart.ensures.restarts;
    }
    in record {
      tick = λ site table node place world machine station once at none represented.
          subst (λ (o : Option Node). IsNetworkOf site (ticked_at site table o world) (run_links (tick_events site table o world) represented.network) → RepresentsAfter site table machine (ticked_at site table o world)) (sym at)
          (signal_steps laws site table world machine station once represented inputs.Tick 0 place (λ below. tt))
          (c.networks_follow_their_worlds.ensures site table (event.Tick node) world represented.network station once represented.linked none);
      delivery = λ site table node bytes place world machine station once at none represented.
          subst (λ (o : Option Node). IsNetworkOf site (delivered_to site table bytes (connection_of (copy_of bytes world)) o world) (run_links (delivery_events site table bytes (connection_of (copy_of bytes world)) o world) represented.network)
          → RepresentsAfter site table machine (delivered_to site table bytes (connection_of (copy_of bytes world)) o world)) (sym at)
          (signal_steps laws site table world machine station once represented (coming bytes) (connection_of (copy_of bytes world)) place
          (λ below. c.deliveries_may_come.ensures.ends site role.Server bytes (connection_of (copy_of bytes world)) represented.network (c.layouts_name_their_links.ensures site station once) represented.linked.lawful.timely place below
          (c.deliveries_may_come.ensures.links site node bytes world represented.network represented.linked.are none place)))
          (c.networks_follow_their_worlds.ensures site table (event.Deliver node bytes) world represented.network station once represented.linked none);
      restart = λ site table node clock first place world machine station once at none represented.
          subst (λ (o : Option Node). IsNetworkOf site (made_anew site table (record { clock = clock; first = first }) o world) (run_links (restart_events site clock first o) represented.network)
          → RepresentsAfter site table machine (made_anew site table (record { clock = clock; first = first }) o world)) (sym at)
          (signal_restarts laws site table world machine station once represented (record { clock = clock; first = first }) place)
          (c.networks_follow_their_worlds.ensures site table (event.Restart node clock first) world represented.network station once represented.linked none);
    }
