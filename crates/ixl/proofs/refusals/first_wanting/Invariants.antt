use Rattle.std.proofs.Common.{◌≡◌, drop}
use Rattle.ixl_state.specs.ixl_spec.Commands.{is_point_wanting}
use Rattle.ixl.specs.inside.Parts.{first_where}
use Rattle.ixl.proofs.refusals.first_wanting.Given as goal

abbrev pub invariant-loop-need : goal.invariant-loop-need
invariant-loop-need l = first_where (is_point_wanting l.state.sited.table l.state.ixl) (drop l.need-index l.needs) ≡ first_where (is_point_wanting l.state.sited.table l.state.ixl) l.needs
