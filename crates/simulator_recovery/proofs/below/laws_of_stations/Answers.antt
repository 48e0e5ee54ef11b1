use Rattle.simulator_recovery.proofs.below.laws_of_stations.Goals as goal

pub returns : goal.returns
returns c = record {
  layouts_name_their_links = c.layouts_name_their_links.ensures;
  events_are_those_of_the_links_exactly = c.events_are_those_of_the_links.ensures.exactly;
  events_are_those_of_the_links_whole = c.events_are_those_of_the_links.ensures.whole;
  a_station_begins_its_links = c.a_station_begins_its_links.ensures;
  stations_have_links_first = c.stations_have_links.ensures.first;
  a_node_of_one_link_makes_a_step_own = c.a_node_of_one_link_makes_a_step.ensures.own;
  a_node_of_one_link_makes_a_step_ends = c.a_node_of_one_link_makes_a_step.ensures.ends;
  reached_worlds_are_safe_at = c.reached_worlds_are_safe.ensures.at;
  every_world_is_safe = c.every_world_is_safe.ensures.seen;
  represented_worlds_are_seen = c.represented_worlds_are_seen.ensures.seen;
  servers_enter_once = c.servers_enter_once.ensures;
  networks_follow_their_worlds = c.networks_follow_their_worlds.ensures;
  lawful_worlds_stay_lawful_starts = c.lawful_worlds_stay_lawful.ensures.starts;
  lawful_worlds_stay_lawful_each = c.lawful_worlds_stay_lawful.ensures.each;
  flows_are_in_order = c.flows_are_in_order.ensures.before;
  representations_tell_the_connection_outside = c.representations_tell_the_connection.ensures.outside;
  representations_tell_the_connection_one = c.representations_tell_the_connection.ensures.one;
  items_are_read_off_the_datagrams = c.items_are_read_off_the_datagrams.ensures;
  every_world_is_reached_by_moves = c.every_world_is_reached_by_moves.ensures.first;
  tables_are_sound = c.tables_are_sound.ensures;
  stations_have_links_run = c.stations_have_links.ensures.run;
  reached_worlds_are_safe_on = c.reached_worlds_are_safe.ensures.on;
  ends_are_those_of_the_nodes_signal = c.ends_are_those_of_the_nodes.ensures.signal;
  ends_are_those_of_the_nodes_point = c.ends_are_those_of_the_nodes.ensures.point;
  deliveries_may_come_links = c.deliveries_may_come.ensures.links;
  a_client_of_many_makes_a_step = c.a_client_of_many_makes_a_step.ensures;
  interlockings_call_their_nodes = c.interlockings_call_their_nodes.ensures;
  deliveries_may_come_ends = c.deliveries_may_come.ensures.ends;
  stations_have_links_kept = c.stations_have_links.ensures.kept;
}
