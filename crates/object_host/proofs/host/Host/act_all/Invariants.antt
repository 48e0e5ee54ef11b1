use Rattle.object_host.proofs.ItemActions.{IsActing}
use Rattle.object_host.proofs.host.Host.act_all.Given as goal

abbrev pub invariant-loop-item : goal.invariant-loop-item
invariant-loop-item g l = IsActing g.C.Controller.behaviour l.now l.items l.fn.self l.fn.outbox l.item-index l.self l.outbox
