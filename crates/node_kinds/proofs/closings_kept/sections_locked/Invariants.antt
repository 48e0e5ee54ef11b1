use Rattle.node_kinds.proofs.Locked.{AreLockedBelow}
use Rattle.node_kinds.proofs.closings_kept.sections_locked.Given as goal

-- those that the routes so far haven't freed
abbrev pub invariant-loop-number : goal.invariant-loop-number
invariant-loop-number l = AreLockedBelow l.state.sited.table.rows l.state.ixl.routes l.number l.sections
