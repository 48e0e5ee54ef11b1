use Rattle.std.proofs.Common.{◌∙◌, ap, rules}
use Rattle.simulator_spec.specs.layout.Entries.{Site}
use Rattle.node_kinds.proofs.Entries.{entry_is}
use Rattle.node_kinds.proofs.OwnSectionsTold.{few_named}
use Rattle.node_kinds.proofs.detector_node.DetectorNode.new.Goals as goal

pub new-requires : goal.new-requires
new-requires c =
    let site = c.args.table.now in
    let detectors = c.detectors.ensures ∙ ap (λ (s : Site). s.detectors) c.layout-layout.ensures.entries in
    few_named site c.layout-layout.result.now c.detectors.result.now c.args.detector.0 c.index-detectors-detector.result c.sections-own.result.now c.args.sensed.now c.deref.result.now
    c.layout-layout.ensures.station detectors c.requires c.index-detectors-detector.is c.sections-own.ensures (c.deref.ensures.value ∙ c.in_ok-named.ensures)

pub returns-clause-made : goal.returns-clause-made
returns-clause-made c = λ entry there.
    let site = c.args.table.now in
    let detectors = c.detectors.ensures ∙ ap (λ (s : Site). s.detectors) c.layout-layout.ensures.entries in
    let same = entry_is c.detectors.result.now site.detectors c.args.detector.0 c.index-detectors-detector.result entry detectors c.requires c.index-detectors-detector.is there in
    search (rules, same, c.in_ok-last.ensures.items_if_clones_equal (search rules))
