use Rattle.std.proofs.Common.{◌∙◌, ap}
use Rattle.simulator_spec.specs.ixl_spec.Step.{answer_by}
use Rattle.simulator_spec.specs.ixl_spec.View.{is_holding}
use Rattle.node_kinds.proofs.Cancels.{all_answered}
use Rattle.node_kinds.proofs.asked.answer_to_all.Goals as goal

pub returns : goal.returns
returns c =
    let self = c.args.ixl.now.state in
    c.answer_by.ensures ∙ ap answer_by c.refusal_of_any.ensures ∙ all_answered (is_holding c.args.now self.ixl) self.ixl.resumed
