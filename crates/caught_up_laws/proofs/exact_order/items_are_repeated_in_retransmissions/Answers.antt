use Rattle.rasta_core_spec.specs.Events.{started}
use Rattle.caught_up_laws.proofs.Sent.{all_chained}
use Rattle.caught_up_laws.proofs.exact_order.items_are_repeated_in_retransmissions.Goals as goal

pub returns : goal.returns
returns c = λ names start events are may who connection.
    let law = c.laws_below.ensures
    in all_chained law names who connection events (started names start) (λ event ends timely may_be. law.event_timely names event ends are timely may_be) (law.starts_timely names start are) may tt
