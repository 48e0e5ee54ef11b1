use Rattle.simulator_link_laws.specs.rasta_core.identity.Role.TheVariants as role
use Rattle.simulator_link_laws.specs.simulator_move_laws.Rows.{machine_table}
use Rattle.simulator_safety.proofs.InterlockingSteps.{EventLaws, delivery_represented, request_represented, tick_represented}
use Rattle.simulator_safety.proofs.steps.steps_of_interlockings_are_represented.Goals as goal

pub returns : goal.returns
returns c =
    let laws : EventLaws = record {
      step = record {
        ends = record {
          at_end = c.clients_are_seen_at_their_ends.ensures;
          given = c.calls_give_and_take_at_the_ends.ensures.given;
          taken = c.calls_give_and_take_at_the_ends.ensures.taken;
          begun = c.calls_give_and_take_at_the_ends.ensures.begun;
          inside = c.representations_tell_the_connection.ensures.inside;
          signal_stays = c.signals_stay_elsewhere.ensures;
          point_stays = c.points_stay_elsewhere.ensures;
        };
        each = c.lawful_worlds_stay_lawful.ensures.each;
        known_signal_end = c.ends_are_those_of_the_nodes.ensures.known_signal;
        known_point_end = c.ends_are_those_of_the_nodes.ensures.known_point;
        may = c.deliveries_may_come.ensures.ends;
        client = c.a_client_of_many_makes_a_step.ensures;
        partner = c.a_node_makes_a_step.ensures.partner role.Client;
        readable = c.peers_with_names_are_read.ensures;
        knows = c.far_ends_are_known.ensures;
        steps = c.steps_are_seen.ensures;
        reached = λ table old new. c.invariant_is_kept.ensures.reached (machine_table table) old new (c.tables_are_sound.ensures table);
      };
      named = c.layouts_name_their_links.ensures;
      exactly = c.events_are_those_of_the_links.ensures.exactly;
      network = c.networks_follow_their_worlds.ensures;
      of_nodes = c.interlockings_call_their_nodes.ensures;
      delivered = c.deliveries_may_come.ensures.links;
    }
    in record {
      request = λ site table command world machine once station is represented. request_represented laws site table once station is world machine represented command;
      tick = λ site table node world machine once station is represented none at. tick_represented laws site table once station is world machine represented node none at;
      delivery = λ site table node bytes world machine once station is represented none at. delivery_represented laws site table once station is world machine represented node bytes none at;
    }
