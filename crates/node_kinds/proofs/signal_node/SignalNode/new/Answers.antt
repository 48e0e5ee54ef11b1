use Rattle.std.proofs.Common.{◌∙◌, ap, rules}
use Rattle.simulator_spec.specs.layout.Entries.{Site}
use Rattle.node_kinds.proofs.Entries.{entry_is}
use Rattle.node_kinds.proofs.signal_node.SignalNode.new.Goals as goal

pub returns-clause-made : goal.returns-clause-made
returns-clause-made c = λ entry there.
    let signals = c.signals.ensures ∙ ap (λ (s : Site). s.signals) c.layout-layout.ensures.entries in
    let same = entry_is c.signals.result.now c.args.table.now.signals c.args.signal.0 c.index-signals-signal.result entry signals c.requires c.index-signals-signal.is there in
    search (rules, same)
