-- a new link is closed
use Rattle.std.proofs.Common.{ap}
use Rattle.rasta_core.specs.Outbox.{OutboxState}
use Rattle.object_host.proofs.Between.{new_hosted}
use Rattle.object_host.proofs.hosted.Hosted.new.Goals as goal

pub invariant_of-result : goal.invariant_of-result
invariant_of-result g c = (
  new_hosted g.C.Controller.behaviour g.met.C.Controller.lawful _ _ _ _ c.in_ok-link.link _ _ _ _ _ _ c.in_ok-link.ensures c.alive_until.ensures c.lost.ensures c.keep.ensures,
  ap (λ (b : OutboxState). b.capacity) c.in_ok-outbox.ensures,
)
