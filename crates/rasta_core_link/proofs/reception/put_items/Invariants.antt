use Rattle.std.proofs.Common.{◌≡◌, take}
use Rattle.rasta_core_link.proofs.reception.put_items.Given as goal

abbrev pub invariant-loop-item : goal.invariant-loop-item
invariant-loop-item l = l.inbox.items ≡ take l.item-index l.item-items
