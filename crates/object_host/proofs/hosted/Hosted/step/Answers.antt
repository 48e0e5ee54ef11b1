-- every step keeps what is always true of a host
use Rattle.std.proofs.Common.{◌∙◌, ap, sym, subst}
use Rattle.rasta_core.specs.Outbox.{OutboxState}
use Rattle.object_host.specs.Hosted.{IsHosted}
use Rattle.object_host.proofs.Between.{of_hosted, step_hosted}
use Rattle.object_host.proofs.OutboxPosts.{capacity-posted}
use Rattle.object_host.proofs.hosted.Hosted.step.Goals as goal

pub invariant_of-self : goal.invariant_of-self
invariant_of-self g c = (
  subst (λ host. IsHosted g.C.Controller.behaviour host) (sym c.step.ensures.performed.host)
      (step_hosted g.C.Controller.behaviour g.met.C.Controller.lawful c.args.now c.args.input c.self.inside.host (of_hosted g.C.Controller.behaviour g.met.C.Controller.lawful c.self.inside.host c.self.invariant.0)),
  ap (λ (b : OutboxState). b.capacity) c.step.ensures.performed.posts ∙ capacity-posted _ _ _ ∙ ap (λ (b : OutboxState). b.capacity) c.empty.ensures ∙ c.self.invariant.1,
)
