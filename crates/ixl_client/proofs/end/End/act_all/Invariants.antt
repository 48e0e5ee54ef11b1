use Rattle.ixl_client.proofs.ItemActions.{IsActing}
use Rattle.ixl_client.proofs.end.End.act_all.Given as goal

abbrev pub invariant-loop-item : goal.invariant-loop-item
invariant-loop-item l = IsActing l.now l.items (record { client = l.fn.self; outbox = l.fn.outbox; heard = l.fn.heard.items }) l.item-index (record { client = l.self; outbox = l.outbox; heard = l.heard.items })
