use Rattle.std.proofs.Common.{◌∙◌, ap, rules}
use Rattle.simulator_spec.specs.layout.Entries.{Site}
use Rattle.node_kinds.proofs.Entries.{entry_is}
use Rattle.node_kinds.proofs.point_node.PointNode.new.Goals as goal

pub returns-clause-made : goal.returns-clause-made
returns-clause-made c = λ entry there.
    let points = c.points.ensures ∙ ap (λ (s : Site). s.points) c.layout-layout.ensures.entries in
    let same = entry_is c.points.result.now c.args.table.now.points c.args.point.0 c.index-points-point.result entry points c.requires c.index-points-point.is there in
    search (rules, same)
