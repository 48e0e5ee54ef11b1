use Rattle.std.proofs.Common.{◌∙◌, sym, refl, arith}
use Rattle.ixl_state.specs.ixl_spec.View.{is_occupied}
use Rattle.ixl.proofs.Causes.{is_next}
use Rattle.ixl.proofs.refusals.first_occupied.Goals as goal

pub returns-then-is_occupied : goal.returns-then-is_occupied
returns-then-is_occupied c =
    is_next (is_occupied c.args.state.now.sited.table c.args.state.now.ixl) c.args.sections.now c.loop-section.section-index _ 0 (omega arith) refl (sym c.is_occupied.ensures ∙ c.if-is_occupied.true)
    ∙ c.loop-section.invariant
