use Rattle.std.proofs.Common.{◌≡◌}
use Rattle.rasta_core_link.proofs.UnconfirmedItems.{Repeated}
use Rattle.rasta_core_link.proofs.window.repeat.Given as goal

abbrev pub invariant-loop-index : goal.invariant-loop-index
invariant-loop-index l = record {
  so_far : Repeated l.header l.key l.count l.index l.fn.waiting.items l.waiting.items l.fn.outbox l.outbox;
  capacity : l.waiting.capacity ≡ l.fn.waiting.capacity;
}
