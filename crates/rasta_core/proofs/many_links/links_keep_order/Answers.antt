use Rattle.rasta_core.specs.Links.{start_of}
use Rattle.rasta_core.proofs.Order.{order_kept, run_keeps_order}
use Rattle.rasta_core.proofs.many_links.links_keep_order.Goals as goal

pub returns-clause-starts : goal.returns-clause-starts
returns-clause-starts c = λ count names start link below. c.every_event_keeps_order.ensures.starts (names link) (start_of link start)

pub returns-clause-kept : goal.returns-clause-kept
returns-clause-kept c = order_kept c.every_run_keeps_order.ensures

pub returns-clause-run : goal.returns-clause-run
returns-clause-run c = run_keeps_order c.every_run_keeps_time.ensures c.every_run_keeps_order.ensures
