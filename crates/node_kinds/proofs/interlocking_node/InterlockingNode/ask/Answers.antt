use Rattle.std.proofs.Common.{◌∙◌, ap}
use Rattle.ixl.specs.Interlocking.{meant, told}
use Rattle.ixl_state.specs.State.{StateView}
use Rattle.node_kinds.specs.Kept.{to_keep, wanted}
use Rattle.node_kinds.proofs.interlocking_node.InterlockingNode.ask.Goals as goal

pub returns-clause-asked : goal.returns-clause-asked
returns-clause-asked c =
    let node = c.args.self.now in
    c.in_ok-asked.ensures
    ∙ ap (λ (s : StateView). to_keep s.sited.site node.keeping (meant c.args.input) (told c.args.reply) c.args.before.now (record { counts = node.counts; closings = wanted node.keeping s.sited.table s.ixl })) c.interlocking-ixl.ensures
