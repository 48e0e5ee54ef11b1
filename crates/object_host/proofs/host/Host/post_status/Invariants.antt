use Rattle.object_host.proofs.Status.{IsTelling}
use Rattle.object_host.proofs.host.Host.post_status.Given as goal

abbrev pub invariant-loop-place : goal.invariant-loop-place
invariant-loop-place g l = IsTelling g.C.Controller.behaviour l.now l.fn.self l.fn.outbox l.place l.self l.outbox
