use Rattle.line_host.proofs.Sites.{looks, hands_out}
use Rattle.line_host.proofs.line_host.LineHost.look.Goals as goal

pub returns-clause-host : goal.returns-clause-host
returns-clause-host c = looks c.args.seen.now c.args.items.now c.args.self.now _ c.is_joined-up.result c.step.new.self c.busy-self-inside.result
    c.self.view_is c.is_joined-up.ensures c.step.ensures.end c.busy-self-inside.ensures

pub returns-clause-output : goal.returns-clause-output
returns-clause-output c = hands_out c.args.seen.now c.args.items.now c.args.self.now _ c.is_joined-up.result c.step.result
    c.self.view_is c.is_joined-up.ensures c.step.ensures.output
