use Rattle.std.proofs.Common.{◌≡◌, Some, map, take}
use Rattle.node_record.specs.GivenEnds.{end_at}
use Rattle.node_record.proofs.ends.ends_at.Given as goal

-- the ends of the addresses so far
abbrev pub invariant-loop-place : goal.invariant-loop-place
invariant-loop-place l = map end_at (take l.place l.addresses) ≡ map (λ end. Some end) l.ends.items
