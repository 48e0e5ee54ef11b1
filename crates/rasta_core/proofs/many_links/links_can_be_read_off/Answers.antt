use Rattle.std.proofs.Common.{sym, subst}
use Rattle.rasta_core_spec.specs.Given.{IsGiven}
use Rattle.rasta_core_spec.specs.Newest.{IsNewest, IsUnused}
use Rattle.rasta_core_spec.specs.Run.{Ends}
use Rattle.rasta_core.specs.Links.{events_on, run_on, seen, start_of}
use Rattle.rasta_core.proofs.many_links.links_can_be_read_off.Goals as goal

pub returns-clause-connection_starts : goal.returns-clause-connection_starts
returns-clause-connection_starts c = λ names start link who. c.newest_tells_the_connection.ensures.starts (names link) (start_of link start) who

pub returns-clause-connection_kept : goal.returns-clause-connection_kept
returns-clause-connection_kept c = λ count names event links are is may link below who was.
    subst (λ (ends : Ends). IsNewest who ends) (sym (c.each_link_sees_its_events.ensures.event link event links))
    (c.newest_tells_the_connection.ensures.run (names link) (events_on link event links) (seen link links) who (are.each link below) (is.each link below) was
    (c.each_link_sees_its_events.ensures.may_happen count names event links are is may link below))

pub returns-clause-connection_run : goal.returns-clause-connection_run
returns-clause-connection_run c = λ count names events links are is may link below who was.
    subst (λ (ends : Ends). IsNewest who ends) (sym (c.each_link_sees_its_events.ensures.run link events links))
    (c.newest_tells_the_connection.ensures.run (names link) (run_on link events links) (seen link links) who (are.each link below) (is.each link below) was
    (c.each_link_sees_its_events.ensures.may_run count names events links are is may link below))

pub returns-clause-given_starts : goal.returns-clause-given_starts
returns-clause-given_starts c = λ names start link who. c.given_was_sent.ensures.starts (names link) (start_of link start) who

pub returns-clause-given_kept : goal.returns-clause-given_kept
returns-clause-given_kept c = λ count names event links are is may link below given who.
    subst (λ (ends : Ends). IsGiven (names link) who ends) (sym (c.each_link_sees_its_events.ensures.event link event links))
    (c.given_was_sent.ensures.kept (names link) (events_on link event links) (seen link links) (are.each link below) (is.each link below) given
    (c.each_link_sees_its_events.ensures.may_happen count names event links are is may link below) who)

pub returns-clause-given_run : goal.returns-clause-given_run
returns-clause-given_run c = λ count names events links are is may link below given who.
    subst (λ (ends : Ends). IsGiven (names link) who ends) (sym (c.each_link_sees_its_events.ensures.run link events links))
    (c.given_was_sent.ensures.kept (names link) (run_on link events links) (seen link links) (are.each link below) (is.each link below) given
    (c.each_link_sees_its_events.ensures.may_run count names events links are is may link below) who)

pub returns-clause-unused_starts : goal.returns-clause-unused_starts
returns-clause-unused_starts c = λ names start link who. c.nothing_before_a_connection.ensures.starts (names link) (start_of link start) who

pub returns-clause-unused_kept : goal.returns-clause-unused_kept
returns-clause-unused_kept c = λ count names event links are is may link below who was.
    subst (λ (ends : Ends). IsUnused who ends) (sym (c.each_link_sees_its_events.ensures.event link event links))
    (c.nothing_before_a_connection.ensures.run (names link) (events_on link event links) (seen link links) who (are.each link below) (is.each link below) was
    (c.each_link_sees_its_events.ensures.may_happen count names event links are is may link below))
