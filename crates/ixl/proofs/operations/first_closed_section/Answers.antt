use Rattle.std.proofs.Common.{◌∙◌, sym, refl, arith}
use Rattle.ixl_state.specs.ixl_spec.Operations.{counts_as_closed, section_thing}
use Rattle.ixl.proofs.Causes.{is_next}
use Rattle.ixl.proofs.operations.first_closed_section.Goals as goal

pub returns-then-is_section_closed : goal.returns-then-is_section_closed
returns-then-is_section_closed c =
    is_next (λ section. counts_as_closed c.args.state.now.sited.table c.args.state.now.ixl (section_thing section)) c.args.sections.now c.loop-section.section-index _ 0 (omega arith) refl
    (sym c.is_section_closed.ensures ∙ c.if-is_section_closed.true)
    ∙ c.loop-section.invariant
