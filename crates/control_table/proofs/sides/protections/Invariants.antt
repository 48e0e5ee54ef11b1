use Rattle.std.proofs.Common.{◌≡◌, ◌++◌, drop}
use Rattle.std.specs.List.{flat_map}
use Rattle.control_table.specs.inside.TableTests.{used, protections_at}
use Rattle.control_table.proofs.sides.protections.Given as goal

abbrev pub invariant-loop-passage : goal.invariant-loop-passage
invariant-loop-passage l = l.protections.items ++ flat_map (λ g. protections_at l.layout (used g)) (drop l.passage-index l.path) ≡ flat_map (λ g. protections_at l.layout (used g)) l.path
