use Rattle.std.proofs.Common.{◌≡◌, length}
use Rattle.rasta_core_link.specs.Receipt.{still_waiting}
use Rattle.rasta_core_link.proofs.window.drop_confirmed.Given as goal

abbrev pub invariant-loop-first : goal.invariant-loop-first
invariant-loop-first l = record {
  still_to_drop : still_waiting l.confirmed l.waiting.items ≡ still_waiting l.confirmed l.fn.waiting.items;
  capacity : l.waiting.capacity ≡ l.fn.waiting.capacity;
}

abbrev pub decreases-loop-first : goal.decreases-loop-first
decreases-loop-first l = length l.waiting.items
