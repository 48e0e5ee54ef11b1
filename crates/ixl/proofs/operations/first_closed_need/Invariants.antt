use Rattle.std.proofs.Common.{◌≡◌, drop}
use Rattle.ixl_state.specs.ixl_spec.Operations.{counts_as_closed, need_thing}
use Rattle.ixl.specs.inside.Parts.{first_where}
use Rattle.ixl.proofs.operations.first_closed_need.Given as goal

abbrev pub invariant-loop-need : goal.invariant-loop-need
invariant-loop-need l = first_where (λ need. counts_as_closed l.state.sited.table l.state.ixl (need_thing need)) (drop l.need-index l.needs) ≡ first_where (λ need. counts_as_closed l.state.sited.table l.state.ixl (need_thing need)) l.needs
