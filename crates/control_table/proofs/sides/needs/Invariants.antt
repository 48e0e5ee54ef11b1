use Rattle.std.proofs.Common.{◌≡◌, ◌++◌, drop}
use Rattle.std.specs.List.{flat_map}
use Rattle.control_table.specs.inside.TableTests.{used, needs_at}
use Rattle.control_table.proofs.sides.needs.Given as goal

abbrev pub invariant-loop-passage : goal.invariant-loop-passage
invariant-loop-passage l = l.needs.items ++ flat_map (λ g. needs_at l.layout (used g)) (drop l.passage-index l.path) ≡ flat_map (λ g. needs_at l.layout (used g)) l.path
