use Rattle.rasta_core_spec.specs.identity.Role.TheVariants as role
use Rattle.rasta_core_spec.specs.Events.{run, started}
use Rattle.rasta_core.proofs.OrderLaws.{CarryingLaws, Laws}
use Rattle.rasta_core.proofs.GivenKept.{run_gives, starts_given, given_of}
use Rattle.rasta_core.proofs.one_link.given_was_sent.Goals as goal

pub returns-clause-starts : goal.returns-clause-starts
returns-clause-starts c = λ names start who. given_of names (started names start) who (starts_given names start)

pub returns-clause-kept : goal.returns-clause-kept
returns-clause-kept c =
    let laws : Laws = record {
      sending_carries = c.calls_carry_what_they_accept.ensures.sending;
      written = c.written_is_read.ensures.read;
      taken_opening = c.opening_is_new.ensures;
      settled_plays = c.calls_keep_order.ensures.settling;
      ticking_on = c.calls_keep_order.ensures.ticking;
      closing_on = c.calls_keep_order.ensures.closing;
      sending_on = c.calls_keep_order.ensures.sending;
      opening_not = c.calls_keep_order.ensures.opening;
      hearing_on = c.hearing_keeps_order.ensures.partners;
      unreadable_on = c.hearing_keeps_order.ensures.unreadable;
      stranger_on = c.hearing_keeps_order.ensures.strangers;
      refusing_on = c.hearing_keeps_order.ensures.refused;
      swapped = c.partner_stays.ensures.order;
      partner_plays = c.partner_stays.ensures.plays;
      anew = c.partner_stays.ensures.anew;
      early_plays = c.client_alone.ensures.plays;
      early_settled = c.client_alone.ensures.settling;
      early_ticking = c.client_alone.ensures.ticking;
      early_closing = c.client_alone.ensures.closing;
      early_sending = c.client_alone.ensures.sending;
      early_accepts = c.client_alone.ensures.accepting;
      opening_not_early = c.client_alone.ensures.opening;
      early_unreadable = c.client_alone.ensures.unreadable;
      early_stranger = c.client_alone.ensures.strangers;
      opening_asks = c.connection_begins.ensures.asking;
      entered_outside = c.connection_begins.ensures.entering;
      hears_outside = c.connection_begins.ensures.hearing;
      granting_on = c.connection_begins.ensures.granting;
    }
    in let carrying : CarryingLaws = record {
      ticking_carries = c.calls_carry_what_they_accept.ensures.ticking;
      closing_carries = c.calls_carry_what_they_accept.ensures.closing;
      opening_carries = c.calls_carry_what_they_accept.ensures.opening;
      sending_carries = c.calls_carry_what_they_accept.ensures.sending;
      receiving_carries = c.calls_carry_what_they_accept.ensures.receiving;
    }
    in λ names events ends are timely given may who.
    given_of names (run events ends) who
    (run_gives laws carrying c.read_was_written.ensures.intact c.every_event_keeps_time.ensures names events ends are timely (record { client = given role.Client; server = given role.Server }) may)

pub returns-clause-run : goal.returns-clause-run
returns-clause-run c =
    let laws : Laws = record {
      sending_carries = c.calls_carry_what_they_accept.ensures.sending;
      written = c.written_is_read.ensures.read;
      taken_opening = c.opening_is_new.ensures;
      settled_plays = c.calls_keep_order.ensures.settling;
      ticking_on = c.calls_keep_order.ensures.ticking;
      closing_on = c.calls_keep_order.ensures.closing;
      sending_on = c.calls_keep_order.ensures.sending;
      opening_not = c.calls_keep_order.ensures.opening;
      hearing_on = c.hearing_keeps_order.ensures.partners;
      unreadable_on = c.hearing_keeps_order.ensures.unreadable;
      stranger_on = c.hearing_keeps_order.ensures.strangers;
      refusing_on = c.hearing_keeps_order.ensures.refused;
      swapped = c.partner_stays.ensures.order;
      partner_plays = c.partner_stays.ensures.plays;
      anew = c.partner_stays.ensures.anew;
      early_plays = c.client_alone.ensures.plays;
      early_settled = c.client_alone.ensures.settling;
      early_ticking = c.client_alone.ensures.ticking;
      early_closing = c.client_alone.ensures.closing;
      early_sending = c.client_alone.ensures.sending;
      early_accepts = c.client_alone.ensures.accepting;
      opening_not_early = c.client_alone.ensures.opening;
      early_unreadable = c.client_alone.ensures.unreadable;
      early_stranger = c.client_alone.ensures.strangers;
      opening_asks = c.connection_begins.ensures.asking;
      entered_outside = c.connection_begins.ensures.entering;
      hears_outside = c.connection_begins.ensures.hearing;
      granting_on = c.connection_begins.ensures.granting;
    }
    in let carrying : CarryingLaws = record {
      ticking_carries = c.calls_carry_what_they_accept.ensures.ticking;
      closing_carries = c.calls_carry_what_they_accept.ensures.closing;
      opening_carries = c.calls_carry_what_they_accept.ensures.opening;
      sending_carries = c.calls_carry_what_they_accept.ensures.sending;
      receiving_carries = c.calls_carry_what_they_accept.ensures.receiving;
    }
    in λ names start events are may who.
    given_of names (run events (started names start)) who
    (run_gives laws carrying c.read_was_written.ensures.intact c.every_event_keeps_time.ensures names events (started names start) are
    (c.starts_in_time.ensures names start are) (starts_given names start) may)
