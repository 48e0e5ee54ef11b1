use Rattle.std.proofs.Common.{◌≡◌, ◌++◌, drop, option_map}
use Rattle.node_kinds.specs.Made.{all_told}
use Rattle.node_kinds.proofs.opening_node.OpeningNode.occupancies.Given as goal

-- those so far stand before those after
abbrev pub invariant-loop-section : goal.invariant-loop-section
invariant-loop-section l = option_map (λ more. l.told.items ++ more) (all_told (drop l.section-index l.self.sections.items)) ≡ all_told l.self.sections.items
