use Rattle.std.proofs.Common.{◌∙◌, sym, refl, arith}
use Rattle.ixl_state.specs.ixl_spec.View.{is_unknown}
use Rattle.ixl.proofs.Causes.{is_next}
use Rattle.ixl.proofs.refusals.first_unknown.Goals as goal

pub returns-then-is_unknown : goal.returns-then-is_unknown
returns-then-is_unknown c =
    is_next (is_unknown c.args.state.now.sited.table c.args.state.now.ixl) c.args.sections.now c.loop-section.section-index _ 0 (omega arith) refl (sym c.is_unknown.ensures ∙ c.if-is_unknown.true)
    ∙ c.loop-section.invariant
