use Rattle.std.proofs.Common.{◌∙◌, ap}
use Rattle.simulator_spec.specs.Nodes.{key_of}
use Rattle.simulator_spec.specs.ixl_spec.Step.{answer_by}
use Rattle.node_kinds.proofs.Cancels.{cancel_answered}
use Rattle.node_kinds.proofs.asked.answer_to_cancel.Goals as goal

pub returns : goal.returns
returns c =
    let self = c.args.ixl.now.state in
    c.answer_by.ensures ∙ ap answer_by c.refusal.ensures ∙ cancel_answered c.args.now self.sited.table (key_of self.sited.site) c.args.route self.ixl
