use Rattle.std.proofs.Common.{◌∙◌, sym, arith}
use Rattle.ixl_state.specs.ixl_spec.Commands.{is_point_wanting}
use Rattle.ixl.proofs.Causes.{is_next}
use Rattle.ixl.proofs.refusals.first_wanting.Goals as goal

pub returns-then-is_point_wanting : goal.returns-then-is_point_wanting
returns-then-is_point_wanting c =
    is_next (is_point_wanting c.args.state.now.sited.table c.args.state.now.ixl) c.args.needs.now c.loop-need.need-index c.need-item.result c.need-item.result (omega arith) c.need-item.is
    (sym c.is_point_wanting.ensures ∙ c.if-is_point_wanting.true)
    ∙ c.loop-need.invariant
