use Rattle.rasta_core_spec.specs.Events.{run, started}
use Rattle.rasta_core.proofs.Events.{run_kept}
use Rattle.rasta_core.proofs.one_link.link_is_safe.Goals as goal

pub returns : goal.returns
returns c = λ names start events are may.
    c.order_is_safe.ensures names (run events (started names start))
    (run_kept c.every_event_keeps_order.ensures.kept c.every_event_keeps_time.ensures names events (started names start) are
    (c.starts_in_time.ensures names start are) (c.every_event_keeps_order.ensures.starts names start) may)
