use Rattle.caught_up_laws.proofs.below.laws_below.Goals as goal

pub returns : goal.returns
returns c = record {
  sending_carries = c.calls_carry_what_they_accept.ensures.sending;
  written = c.written_is_read.ensures.read;
  was_written = c.read_was_written.ensures.intact;
  taken_opening = c.opening_is_new.ensures;
  settled_plays = c.calls_keep_order.ensures.settling;
  ticking_on = c.calls_keep_order.ensures.ticking;
  closing_on = c.calls_keep_order.ensures.closing;
  sending_on = c.calls_keep_order.ensures.sending;
  opening_not = c.calls_keep_order.ensures.opening;
  hearing_on = c.hearing_keeps_order.ensures.partners;
  unreadable_on = c.hearing_keeps_order.ensures.unreadable;
  stranger_on = c.hearing_keeps_order.ensures.strangers;
  refusing_on = c.hearing_keeps_order.ensures.refused;
  swapped = c.partner_stays.ensures.order;
  partner_plays = c.partner_stays.ensures.plays;
  anew = c.partner_stays.ensures.anew;
  early_plays = c.client_alone.ensures.plays;
  early_settled = c.client_alone.ensures.settling;
  early_ticking = c.client_alone.ensures.ticking;
  early_closing = c.client_alone.ensures.closing;
  early_sending = c.client_alone.ensures.sending;
  early_accepts = c.client_alone.ensures.accepting;
  opening_not_early = c.client_alone.ensures.opening;
  early_unreadable = c.client_alone.ensures.unreadable;
  early_stranger = c.client_alone.ensures.strangers;
  opening_asks = c.connection_begins.ensures.asking;
  entered_outside = c.connection_begins.ensures.entering;
  hears_outside = c.connection_begins.ensures.hearing;
  granting_on = c.connection_begins.ensures.granting;
  pdus = c.calls_hand_out_pdus.ensures;
  stays_out = c.outside_until_it_enters.ensures.stays;
  does_nothing = c.outside_until_it_enters.ensures.nothing;
  idle = c.what_is_taken.ensures.nothing;
  starts_timely = c.starts_in_time.ensures;
  event_timely = c.every_event_keeps_time.ensures;
  are_settled = c.links_are_settled.ensures;
  server_joins = c.one_connection.ensures.server;
  starts_given = c.given_was_sent.ensures.starts;
  kept_given = c.given_was_sent.ensures.kept;
  starts_ordered = c.every_event_keeps_order.ensures.starts;
  event_ordered = c.every_event_keeps_order.ensures.kept;
  alone_gives_none = c.nothing_before_a_connection.ensures.client;
}
