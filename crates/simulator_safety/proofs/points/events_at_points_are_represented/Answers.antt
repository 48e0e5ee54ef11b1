use Rattle.std.proofs.Common.{Option, refl, sym, subst}
use Rattle.simulator_link_laws.specs.object_host.declared.input.Input.TheVariants as inputs
use Rattle.simulator_link_laws.specs.rasta_core.Links.{run_links}
use Rattle.simulator_link_laws.specs.rasta_core.identity.Role.TheVariants as role
use Rattle.simulator_link_laws.specs.simulator_event.declared.event.Event.TheVariants as event
use Rattle.simulator_link_laws.specs.Events.{delivery_events, events_of, restart_events, tick_events}
use Rattle.simulator_link_laws.specs.simulator_spec.Happens.{coming, delivered_to, happens, made_anew, ticked_at}
use Rattle.simulator_link_laws.specs.simulator_spec.Network.{connection_of, copy_of}
use Rattle.simulator_link_laws.specs.simulator_spec.Nodes.{Node, point_link}
use Rattle.simulator_link_laws.specs.simulator_spec.Refusals.{refusal}
use Rattle.simulator_safety.specs.Represents.{IsNetworkOf, RepresentsAfter}
use Rattle.simulator_safety.proofs.AtPoints.{PointLaws, point_reaches, point_restarts, point_steps}
use Rattle.simulator_safety.proofs.ControllersReached.{reachable}
use Rattle.simulator_safety.proofs.points.events_at_points_are_represented.Goals as goal

pub returns : goal.returns
unfolding happens events_of refusal
returns c =
    let laws : PointLaws = record {
      link = record {
        calling = record { own = c.a_node_of_one_link_makes_a_step.ensures.own; others = c.a_node_of_one_link_makes_a_step.ensures.ends };
        anew = c.a_node_restarts.ensures;
        are_links = c.layouts_name_their_links.ensures;
        each = c.lawful_worlds_stay_lawful.ensures.each;
        fit = c.lawful_ends_are_fit.ensures.fit;
        steps = c.lawful_ends_are_fit.ensures.steps;
        restarts = c.restarts_of_links_are_moves.ensures.server;
      };
      change = c.changes_are_represented.ensures.point;
      none = c.lists_of_moves_compose.ensures.none;
      end = c.ends_are_those_of_the_nodes.ensures.point;
      named = c.links_are_named_by_their_controllers.ensures.point;
      items = c.hosts_say_items.ensures.point;
      calls_for = c.step_is_calls.ensures.first;
      names = c.steps_keep_a_host.ensures.names;
      moves = c.steps_of_points_are_moves.ensures;
      restarts = c.points_pass_time_and_restart.ensures.restarts;
      step = c.point_makes_a_step.ensures;
    }
    in record {
      tick = λ site table node place world machine station once at none represented.
          subst (λ (o : Option Node). IsNetworkOf site (ticked_at site table o world) (run_links (tick_events site table o world) represented.network) → RepresentsAfter site table machine (ticked_at site table o world)) (sym at)
          (point_steps laws site table world machine station once represented inputs.Tick 0 place (λ below. tt) (λ stood. refl))
          (c.networks_follow_their_worlds.ensures site table (event.Tick node) world represented.network station once represented.linked none);
      delivery = λ site table node bytes place world machine station once at none represented.
          subst (λ (o : Option Node). IsNetworkOf site (delivered_to site table bytes (connection_of (copy_of bytes world)) o world) (run_links (delivery_events site table bytes (connection_of (copy_of bytes world)) o world) represented.network)
          → RepresentsAfter site table machine (delivered_to site table bytes (connection_of (copy_of bytes world)) o world)) (sym at)
          (point_steps laws site table world machine station once represented (coming bytes) (connection_of (copy_of bytes world)) place
          (λ below. c.deliveries_may_come.ensures.ends site role.Server bytes (connection_of (copy_of bytes world)) represented.network (c.layouts_name_their_links.ensures site station once) represented.linked.lawful.timely (point_link site place) below
          (c.deliveries_may_come.ensures.links site node bytes world represented.network represented.linked.are none (point_link site place))) (λ stood. refl))
          (c.networks_follow_their_worlds.ensures site table (event.Deliver node bytes) world represented.network station once represented.linked none);
      reach = λ site table point position world machine station once none represented.
          let reaches = reachable site point position world none
          in point_reaches laws site table world machine station once represented point.0 position reaches.0 reaches.1
          (c.networks_follow_their_worlds.ensures site table (event.Reach point position) world represented.network station once represented.linked none);
      restart = λ site table node clock first place world machine station once at none represented.
          subst (λ (o : Option Node). IsNetworkOf site (made_anew site table (record { clock = clock; first = first }) o world) (run_links (restart_events site clock first o) represented.network)
          → RepresentsAfter site table machine (made_anew site table (record { clock = clock; first = first }) o world)) (sym at)
          (point_restarts laws site table world machine station once represented (record { clock = clock; first = first }) place)
          (c.networks_follow_their_worlds.ensures site table (event.Restart node clock first) world represented.network station once represented.linked none);
    }
