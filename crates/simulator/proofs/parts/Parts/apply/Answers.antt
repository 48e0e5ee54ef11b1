use Rattle.std.proofs.lemmas.Result.{err_from_is_err_and}
use Rattle.simulator.specs.inside.Parts.{site_of, seen}
use Rattle.simulator.proofs.Memory.{goes_on, not_for_memory, told_for}
use Rattle.simulator.proofs.parts.Parts.apply.Goals as goal

pub returns-in_err-found-clause-memory : goal.returns-in_err-found-clause-memory
returns-in_err-found-clause-memory c = λ same room.
    let self = c.args.self.now
    in let p = err_from_is_err_and c.from_residual.result c.from_residual.ensures.1
    in absurd (not_for_memory (site_of self) c.args.event.now (seen self) c.in_err-found.field-0.0 c.in_err-found.ensures (told_for c.from_residual.result p.0 c.in_err-found.field-0.0 p.1 p.2 same))

pub overflow_sub-added : goal.overflow_sub-added
overflow_sub-added c = goes_on _ _ c.args.event.now _ _ c.len-before.result c.len.result c.in-Ok.ensures.goes c.len-before.ensures.count c.len.ensures.count
