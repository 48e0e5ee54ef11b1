use Rattle.std.proofs.Common.{◌≡◌}
use Rattle.node_kinds.specs.Kept.{is_held, places_where}
use Rattle.node_kinds.proofs.closings_kept.points_held.Given as goal

abbrev pub invariant-loop-point : goal.invariant-loop-point
invariant-loop-point l = l.row ≡ places_where (is_held l.state.sited.table l.state.ixl) l.point
