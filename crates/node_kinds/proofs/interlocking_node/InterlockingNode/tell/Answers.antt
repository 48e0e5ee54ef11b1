use Rattle.std.proofs.Common.{◌∙◌, ap}
use Rattle.ixl_state.specs.State.{StateView}
use Rattle.node_kinds.specs.Interlockings.{all_known}
use Rattle.node_kinds.proofs.interlocking_node.InterlockingNode.tell.Goals as goal

pub returns-clause-told : goal.returns-clause-told
returns-clause-told c = c.in_ok-all.ensures ∙ ap (λ (s : StateView). all_known s.sited.site s.sited.table c.args.self.now.counts c.args.reading s.ixl) c.interlocking.ensures
