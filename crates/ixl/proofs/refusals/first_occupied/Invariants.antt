use Rattle.std.proofs.Common.{◌≡◌, drop}
use Rattle.ixl_state.specs.ixl_spec.View.{is_occupied}
use Rattle.ixl.specs.inside.Parts.{first_where}
use Rattle.ixl.proofs.refusals.first_occupied.Given as goal

abbrev pub invariant-loop-section : goal.invariant-loop-section
invariant-loop-section l = first_where (is_occupied l.state.sited.table l.state.ixl) (drop l.section-index l.sections) ≡ first_where (is_occupied l.state.sited.table l.state.ixl) l.sections
