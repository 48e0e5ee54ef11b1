use Rattle.std.proofs.Common.{◌∙◌, ap, sym}
use Rattle.ixl_state.specs.ixl_spec.Commands.{refusal}
use Rattle.ixl_state.specs.ixl_spec.declared.command.Command.{Command}
use Rattle.ixl.proofs.refusals.refusal.Goals as goal

pub returns-in-Request : goal.returns-in-Request
unfolding refusal
returns-in-Request c = c.request_refusal.ensures ∙ ap (λ (k : Command). refusal c.args.now c.args.state.now.sited.table k c.args.state.now.ixl) (sym c.in-Request.is)

pub returns-in-Cancel : goal.returns-in-Cancel
unfolding refusal
returns-in-Cancel c = c.cancel_refusal.ensures ∙ ap (λ (k : Command). refusal c.args.now c.args.state.now.sited.table k c.args.state.now.ixl) (sym c.in-Cancel.is)

pub returns-in-Resume : goal.returns-in-Resume
unfolding refusal
returns-in-Resume c = c.resume_refusal.ensures ∙ ap (λ (k : Command). refusal c.args.now c.args.state.now.sited.table k c.args.state.now.ixl) (sym c.in-Resume.is)

pub returns-in-Release : goal.returns-in-Release
unfolding refusal
returns-in-Release c = c.release_refusal.ensures ∙ ap (λ (k : Command). refusal c.args.now c.args.state.now.sited.table k c.args.state.now.ixl) (sym c.in-Release.is)

pub returns-in-Move : goal.returns-in-Move
unfolding refusal
returns-in-Move c = c.move_refusal.ensures ∙ ap (λ (k : Command). refusal c.args.now c.args.state.now.sited.table k c.args.state.now.ixl) (sym c.in-Move.is)

pub returns-in-Close : goal.returns-in-Close
unfolding refusal
returns-in-Close c = c.close_refusal.ensures ∙ ap (λ (k : Command). refusal c.args.now c.args.state.now.sited.table k c.args.state.now.ixl) (sym c.in-Close.is)

pub returns-in-Open : goal.returns-in-Open
unfolding refusal
returns-in-Open c = c.open_refusal.ensures ∙ ap (λ (k : Command). refusal c.args.now c.args.state.now.sited.table k c.args.state.now.ixl) (sym c.in-Open.is)
