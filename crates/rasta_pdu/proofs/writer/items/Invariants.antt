use Rattle.std.proofs.Common.{◌≡◌, ◌*◌, ◌≤◌, length, take}
use Rattle.std.specs.List.{flat_map}
use Rattle.rasta_pdu.specs.Spelling.{item_bytes}
use Rattle.rasta_pdu.proofs.writer.items.Given as goal

abbrev pub invariant-loop-item : goal.invariant-loop-item
invariant-loop-item l = (l.bytes.items ≡ flat_map item_bytes (take l.item-index l.item-items)) × (length l.bytes.items ≤ 63 * l.item-index)
