use Rattle.simulator_recovery.proofs.Words.Links.{Role}
use Rattle.simulator_recovery.proofs.below.laws_of_links.Goals as goal

pub returns : goal.returns
returns c = record {
  links_keep_time_starts = c.links_keep_time.ensures.starts;
  links_keep_time_run = c.links_keep_time.ensures.run;
  a_node_makes_a_step = c.a_node_makes_a_step.ensures.partner Role.Client;
  items_are_counted = c.items_are_counted.ensures.counted;
  order_is_safe = c.order_is_safe.ensures;
  each_link_sees_its_events_event = c.each_link_sees_its_events.ensures.event;
  each_link_is_a_run = c.each_link_is_a_run.ensures.runs;
  one_connection_up = c.one_connection.ensures.up;
  one_connection_some = c.one_connection.ensures.some;
  every_event_keeps_time = c.every_event_keeps_time.ensures;
  one_connection_counted = c.one_connection.ensures.counted;
  outside_until_it_enters = c.outside_until_it_enters.ensures.stays;
  every_event_keeps_order_kept = c.every_event_keeps_order.ensures.kept;
  one_connection_server = c.one_connection.ensures.server;
  opening_is_new = c.opening_is_new.ensures;
  what_is_taken = c.what_is_taken.ensures.nothing;
  every_run_keeps_time = c.every_run_keeps_time.ensures;
  every_run_keeps_order = c.every_run_keeps_order.ensures;
  every_event_keeps_order_starts = c.every_event_keeps_order.ensures.starts;
  starts_in_time = c.starts_in_time.ensures;
  each_link_sees_its_events_run = c.each_link_sees_its_events.ensures.run;
  each_link_sees_its_events_may_run = c.each_link_sees_its_events.ensures.may_run;
  written_pdu_is_read = c.written_is_read.ensures.read;
  calls_hand_out_pdus = c.calls_hand_out_pdus.ensures;
  links_are_settled = c.links_are_settled.ensures;
  own_connection = c.own_connection.ensures.inside;
  items_are_counted_few = c.items_are_counted.ensures.few;
  each_delivery_is_seen_own = c.each_delivery_is_seen.ensures.own;
  each_delivery_is_seen_others = c.each_delivery_is_seen.ensures.others;
  copies_are_delivered = c.copies_are_delivered.ensures;
  intact_is_tested = c.intact_is_tested.ensures;
  links_keep_order_starts = c.links_keep_order.ensures.starts;
  links_keep_order_run = c.links_keep_order.ensures.run;
  calls_may_follow_calls = c.calls_may_follow_calls.ensures.all;
  each_link_sees_its_events_may_happen = c.each_link_sees_its_events.ensures.may_happen;
}
