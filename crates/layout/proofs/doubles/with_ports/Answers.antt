use Rattle.std.proofs.lemmas.Result.{err_from_is_err_and}
use Rattle.layout.proofs.KnownLemmas.{port_eq}
use Rattle.layout.proofs.doubles.with_ports.Goals as goal

pub returns-in_err-note_each : goal.returns-in_err-note_each
returns-in_err-note_each c =
    let p = err_from_is_err_and c.from_residual.result c.from_residual.ensures.1 in
    rw (p.1, p.2) (rw (c.new-known.ensures.empty, port_eq) at c.in_err-note_each.ensures)

pub returns : goal.returns
returns c = rw (c.new-known.ensures.empty, port_eq) at c.in_ok-note_each.ensures
