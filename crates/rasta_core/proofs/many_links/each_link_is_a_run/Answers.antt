use Rattle.std.proofs.Common.{sym, subst}
use Rattle.rasta_core_spec.specs.Safe.{AreSafe}
use Rattle.rasta_core.specs.Links.{begun, run_on, start_of}
use Rattle.rasta_core.proofs.many_links.each_link_is_a_run.Goals as goal

pub returns-clause-runs : goal.returns-clause-runs
returns-clause-runs c = λ count names start events are may link below. record {
  events = run_on link events (begun names start);
  may = c.each_link_sees_its_events.ensures.may_run count names events (begun names start) are (c.links_keep_time.ensures.starts count names start are) may link below;
  same = sym (c.each_link_sees_its_events.ensures.run link events (begun names start));
}

pub returns-clause-safe : goal.returns-clause-safe
returns-clause-safe c = λ count names start events are may link below.
    subst AreSafe (sym (c.each_link_sees_its_events.ensures.run link events (begun names start)))
    (c.link_is_safe.ensures (names link) (start_of link start) (run_on link events (begun names start)) (are.each link below)
    (c.each_link_sees_its_events.ensures.may_run count names events (begun names start) are (c.links_keep_time.ensures.starts count names start are) may link below))
