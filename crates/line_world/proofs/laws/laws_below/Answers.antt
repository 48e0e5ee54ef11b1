use Rattle.line_world.proofs.laws.laws_below.Goals as goal

pub returns : goal.returns
returns c = record {
  starts_timely = c.starts_in_time.ensures;
  starts_ordered = c.every_event_keeps_order.ensures.starts;
  event_timely = c.every_event_keeps_time.ensures;
  event_ordered = c.every_event_keeps_order.ensures.kept;
  run_timely = c.every_run_keeps_time.ensures;
  run_ordered = c.every_run_keeps_order.ensures;
  are_settled = c.links_are_settled.ensures;
  safe = c.order_is_safe.ensures;
  after_calls = c.calls_at_one_clock.ensures.end;
  stays = c.calls_at_one_clock.ensures.items;
  partner = c.calls_at_one_clock.ensures.partner;
  time = c.calls_at_one_clock.ensures.time;
  stays_out = c.outside_until_it_enters.ensures.stays;
  idle = c.what_is_taken.ensures.nothing;
  hears_out = c.connection_begins.ensures.hearing;
  enters_out = c.connection_begins.ensures.entering;
  opening_new = c.opening_is_new.ensures;
  server_in = c.one_connection.ensures.server;
  some = c.one_connection.ensures.some;
  counted = c.one_connection.ensures.counted;
  client_up = c.one_connection.ensures.up;
  alone = c.nothing_before_a_connection.ensures.client;
  server_out = c.alone_after_quiet.ensures.server;
  read = c.written_is_read.ensures.read;
  item = c.written_is_read.ensures.item;
  intact_tested = c.intact_is_tested.ensures;
  each_keeps = c.invariant_is_kept.ensures.each;
  begins_sound = c.invariant_is_kept.ensures.begins;
  silent_out = c.unlinked_end_is_silent.ensures;
  written = c.what_has_changed_is_written.ensures.after;
}
