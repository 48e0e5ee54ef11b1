use Rattle.std.proofs.Common.{◌≡◌, take, All}
use Rattle.rasta_pdu.specs.Items.{IsItem}
use Rattle.rasta_pdu.proofs.items.Items.of.Given as goal

abbrev pub invariant-loop-item : goal.invariant-loop-item
invariant-loop-item l = (l.held.items ≡ take l.item-index l.items) × All IsItem l.held.items
