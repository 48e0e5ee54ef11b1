use Rattle.std.proofs.Common.{◌∙◌}
use Rattle.embedded_host.proofs.Lent.{lent_is}
use Rattle.embedded_host.proofs.embedded.Embedded.step_with_bytes.Goals as goal

pub returns : goal.returns
returns g c = c.step.ensures ∙ lent_is g.C.Controller.behaviour c.args.now c.args.bytes c.args.self.now
