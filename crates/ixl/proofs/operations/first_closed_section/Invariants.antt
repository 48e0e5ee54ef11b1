use Rattle.std.proofs.Common.{◌≡◌, drop}
use Rattle.ixl_state.specs.ixl_spec.Operations.{counts_as_closed, section_thing}
use Rattle.ixl.specs.inside.Parts.{first_where}
use Rattle.ixl.proofs.operations.first_closed_section.Given as goal

abbrev pub invariant-loop-section : goal.invariant-loop-section
invariant-loop-section l = first_where (λ section. counts_as_closed l.state.sited.table l.state.ixl (section_thing section)) (drop l.section-index l.sections) ≡ first_where (λ section. counts_as_closed l.state.sited.table l.state.ixl (section_thing section)) l.sections
