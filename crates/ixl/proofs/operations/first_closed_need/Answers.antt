use Rattle.std.proofs.Common.{◌∙◌, sym, arith}
use Rattle.ixl_state.specs.ixl_spec.Operations.{counts_as_closed, need_thing}
use Rattle.ixl.proofs.Causes.{is_next}
use Rattle.ixl.proofs.operations.first_closed_need.Goals as goal

pub returns-then-is_need_closed : goal.returns-then-is_need_closed
returns-then-is_need_closed c =
    is_next (λ need. counts_as_closed c.args.state.now.sited.table c.args.state.now.ixl (need_thing need)) c.args.needs.now c.loop-need.need-index c.need-item.result c.need-item.result (omega arith) c.need-item.is
    (sym c.is_need_closed.ensures ∙ c.if-is_need_closed.true)
    ∙ c.loop-need.invariant
