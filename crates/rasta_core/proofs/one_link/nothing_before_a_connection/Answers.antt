use Rattle.rasta_core.proofs.Outside.{EnteringLaws}
use Rattle.rasta_core.proofs.Unused.{alone_unused, event_unused, run_unused, starts_unused}
use Rattle.rasta_core.proofs.one_link.nothing_before_a_connection.Goals as goal

pub returns-clause-starts : goal.returns-clause-starts
returns-clause-starts c = starts_unused

pub returns-clause-kept : goal.returns-clause-kept
returns-clause-kept c =
    let laws : EnteringLaws = record { entering = c.connection_begins.ensures.entering; hearing = c.connection_begins.ensures.hearing }
    in λ names event ends who timely was. event_unused laws c.one_connection.ensures.some names ends timely event who was

pub returns-clause-run : goal.returns-clause-run
returns-clause-run c =
    let laws : EnteringLaws = record { entering = c.connection_begins.ensures.entering; hearing = c.connection_begins.ensures.hearing }
    in run_unused laws c.one_connection.ensures.some c.every_event_keeps_time.ensures

pub returns-clause-client : goal.returns-clause-client
returns-clause-client c = alone_unused
