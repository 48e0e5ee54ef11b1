use Rattle.rasta_core.proofs.Events.{run_kept}
use Rattle.rasta_core.proofs.one_link.every_run_keeps_order.Goals as goal

pub returns : goal.returns
returns c = run_kept c.every_event_keeps_order.ensures.kept c.every_event_keeps_time.ensures
