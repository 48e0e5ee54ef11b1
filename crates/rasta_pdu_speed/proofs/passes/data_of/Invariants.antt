use Rattle.std.proofs.Common.{◌≡◌, ◌≤◌, replicate}
use Rattle.rasta_pdu_speed.specs.Passes.{filling}
use Rattle.rasta_pdu_speed.proofs.passes.data_of.Given as goal

abbrev pub invariant-loop-item : goal.invariant-loop-item
invariant-loop-item l = record { room : l._item ≤ 3; filled : l.items.items ≡ replicate l._item filling }
