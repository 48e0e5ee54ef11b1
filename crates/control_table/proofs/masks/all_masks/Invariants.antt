use Rattle.std.proofs.Common.{◌≡◌, ◌++◌, drop}
use Rattle.control_table.specs.inside.TableTests.{AreWithin, all_masks}
use Rattle.control_table.proofs.masks.all_masks.Given as goal

abbrev pub invariant-loop-index : goal.invariant-loop-index
invariant-loop-index l =
    (l.masks.items ++ all_masks (drop l.index l.routes) (drop l.index l.rows) ≡ all_masks l.routes l.rows)
    × AreWithin (drop l.index l.routes) (drop l.index l.rows)
