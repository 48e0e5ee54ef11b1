use Rattle.std.proofs.Common.{◌≡◌, filter, not, take}
use Rattle.simulator_spec.specs.ixl_spec.closings.Closed.{is_closed}
use Rattle.node_kinds.proofs.closing_lines.newly.Given as goal

-- those that were open, of the things so far
abbrev pub invariant-loop-thing : goal.invariant-loop-thing
invariant-loop-thing l = l.things.items ≡ filter (λ t. not (is_closed l.before t)) (take l.thing-index l.thing-items)
