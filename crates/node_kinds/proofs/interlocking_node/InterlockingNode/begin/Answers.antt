use Rattle.std.proofs.Common.{◌∙◌, ap, map, string_bytes}
use Rattle.ixl_state.specs.State.{StateView}
use Rattle.node_kinds.specs.Kept.{wanted}
use Rattle.node_kinds.proofs.interlocking_node.InterlockingNode.begin.Goals as goal

pub returns-clause-wanted : goal.returns-clause-wanted
returns-clause-wanted c = c.wanted.ensures ∙ ap (λ (s : StateView). wanted c.args.self.now.keeping s.sited.table s.ixl) c.interlocking.ensures

pub returns-clause-said : goal.returns-clause-said
returns-clause-said c = ap (map string_bytes) c.clear.ensures.items
