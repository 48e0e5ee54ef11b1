use Rattle.rasta_core_recovery.proofs.below.laws_below.Goals as goal

pub returns : goal.returns
returns c = record {
  of_pdus = record {
    written_is_read = c.written_is_read.ensures.read;
    read_was_written = c.read_was_written.ensures.intact;
    calls_hand_out_pdus = c.calls_hand_out_pdus.ensures;
  };
  of_events = record {
    starts_in_time = c.starts_in_time.ensures;
    every_event_keeps_time = c.every_event_keeps_time.ensures;
    every_event_keeps_order_starts = c.every_event_keeps_order.ensures.starts;
    every_event_keeps_order_kept = c.every_event_keeps_order.ensures.kept;
    links_are_settled = c.links_are_settled.ensures;
  };
  of_connections = record {
    one_connection_inside = c.one_connection.ensures.inside;
    one_connection_counted = c.one_connection.ensures.counted;
    own_connection_inside = c.own_connection.ensures.inside;
    own_connection_taken = c.own_connection.ensures.taken;
    opening_is_new = c.opening_is_new.ensures;
    what_is_taken = c.what_is_taken.ensures.nothing;
  };
  of_entering = record {
    outside_until_it_enters_stays = c.outside_until_it_enters.ensures.stays;
    outside_until_it_enters_server = c.outside_until_it_enters.ensures.server;
    outside_until_it_enters_nothing = c.outside_until_it_enters.ensures.nothing;
    connection_begins_entering = c.connection_begins.ensures.entering;
    connection_begins_hearing = c.connection_begins.ensures.hearing;
  };
}
