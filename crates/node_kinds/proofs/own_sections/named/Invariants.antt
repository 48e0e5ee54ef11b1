use Rattle.std.proofs.Common.{◌≡◌, take}
use Rattle.std.specs.List.{zip}
use Rattle.node_kinds.specs.Made.{own_names}
use Rattle.node_kinds.proofs.own_sections.named.Given as goal

abbrev pub invariant-loop-place : goal.invariant-loop-place
invariant-loop-place l = l.named.items ≡ take l.place (zip (own_names l.layout l.own) l.sensed)
