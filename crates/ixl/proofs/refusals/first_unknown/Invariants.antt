use Rattle.std.proofs.Common.{◌≡◌, drop}
use Rattle.ixl_state.specs.ixl_spec.View.{is_unknown}
use Rattle.ixl.specs.inside.Parts.{first_where}
use Rattle.ixl.proofs.refusals.first_unknown.Given as goal

abbrev pub invariant-loop-section : goal.invariant-loop-section
invariant-loop-section l = first_where (is_unknown l.state.sited.table l.state.ixl) (drop l.section-index l.sections) ≡ first_where (is_unknown l.state.sited.table l.state.ixl) l.sections
