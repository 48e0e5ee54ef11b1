use Rattle.object_host.proofs.OwedReports.{IsPaying}
use Rattle.object_host.proofs.host.Host.pay.Given as goal

abbrev pub invariant-loop-round : goal.invariant-loop-round
invariant-loop-round g l = IsPaying g.C.Controller.behaviour l.now l.fn.self l.fn.outbox l._round l.self l.outbox
