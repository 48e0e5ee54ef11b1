use Rattle.rasta_core_spec.specs.Events.{run, started}
use Rattle.rasta_core.proofs.Others.{others_idle}
use Rattle.rasta_core.proofs.one_link.what_is_taken.Goals as goal

pub returns-clause-fresh : goal.returns-clause-fresh
returns-clause-fresh c = λ names start events are may who bytes connection datagram delivered some.
    c.items_are_fresh.ensures names (run events (started names start)) who bytes connection datagram are
    (c.every_run_keeps_time.ensures names events (started names start) are (c.starts_in_time.ensures names start are) may) delivered some

pub returns-clause-own : goal.returns-clause-own
returns-clause-own c = λ names start events are may who bytes connection datagram delivered taken.
    c.own_connection.ensures.taken names (run events (started names start)) who bytes connection datagram
    (c.every_run_keeps_time.ensures names events (started names start) are (c.starts_in_time.ensures names start are) may) delivered taken

pub returns-clause-opening : goal.returns-clause-opening
returns-clause-opening c = λ names start events are may who bytes connection datagram delivered outside taken.
    c.opening_is_new.ensures names (run events (started names start)) who bytes connection datagram are
    (c.every_run_keeps_time.ensures names events (started names start) are (c.starts_in_time.ensures names start are) may) delivered outside taken

pub returns-clause-others : goal.returns-clause-others
returns-clause-others c = λ names start events are may who bytes what.
    others_idle c.read_was_written.ensures.intact names (run events (started names start)) who bytes
    (c.every_run_keeps_time.ensures names events (started names start) are (c.starts_in_time.ensures names start are) may) what

pub returns-clause-nothing : goal.returns-clause-nothing
returns-clause-nothing c = λ names ends who bytes timely what. others_idle c.read_was_written.ensures.intact names ends who bytes timely what
