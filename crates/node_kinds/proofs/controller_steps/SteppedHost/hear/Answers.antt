use Rattle.std.proofs.Common.{◌∙◌}
use Rattle.node_kinds.proofs.Hosts.{lent_is}
use Rattle.node_kinds.proofs.controller_steps.SteppedHost.hear.Goals as goal

pub returns : goal.returns
returns g c = c.step.ensures ∙ lent_is g.C.Controller.behaviour c.args.reading c.args.bytes c.args.self.now
