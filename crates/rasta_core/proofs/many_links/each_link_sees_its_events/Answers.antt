use Rattle.rasta_core.proofs.Projection.{may_happen, may_run, run_seen, sees}
use Rattle.rasta_core.proofs.many_links.each_link_sees_its_events.Goals as goal

pub returns-clause-event : goal.returns-clause-event
returns-clause-event c = sees

pub returns-clause-run : goal.returns-clause-run
returns-clause-run c = run_seen

pub returns-clause-may_happen : goal.returns-clause-may_happen
returns-clause-may_happen c = may_happen

pub returns-clause-may_run : goal.returns-clause-may_run
returns-clause-may_run c = may_run c.every_run_keeps_time.ensures
