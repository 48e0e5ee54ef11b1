-- the link that the input meets is the one that the clock rules leave
use Rattle.std.proofs.Common.{ap, subst, ◌∙◌}
use Rattle.object_host.specs.Host.{HostState}
use Rattle.object_host.specs.Refused.{RefusesRightly}
use Rattle.object_host.proofs.Made.{begun_link}
use Rattle.object_host.proofs.host.Host.step.Goals as goal

pub returns-clause-rightly : goal.returns-clause-rightly
returns-clause-rightly g c =
    subst (λ l. RefusesRightly c.args.now c.args.input.now l)
    (ap (λ (h : HostState g.row.C.Denot). h.link) c.begin.ensures.host ∙ begun_link g.C.Controller.behaviour _ _)
    c.give.ensures.rightly
