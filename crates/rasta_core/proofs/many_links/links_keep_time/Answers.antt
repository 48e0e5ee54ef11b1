use Rattle.rasta_core.proofs.Projection.{begins, run_keeps_time, time_kept}
use Rattle.rasta_core.proofs.many_links.links_keep_time.Goals as goal

pub returns-clause-starts : goal.returns-clause-starts
returns-clause-starts c = begins c.starts_in_time.ensures

pub returns-clause-kept : goal.returns-clause-kept
returns-clause-kept c = time_kept c.every_run_keeps_time.ensures

pub returns-clause-run : goal.returns-clause-run
returns-clause-run c = run_keeps_time c.every_run_keeps_time.ensures
