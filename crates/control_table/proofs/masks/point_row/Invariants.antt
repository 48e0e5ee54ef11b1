use Rattle.std.proofs.Common.{◌≡◌, drop, if◌then◌else◌}
use Rattle.std.specs.FinSet.{empty, insert}
use Rattle.std.specs.List.{fold}
use Rattle.control_table.specs.inside.TableTests.{point_row, same_side}
use Rattle.control_table.proofs.masks.point_row.Given as goal

abbrev pub invariant-loop-need : goal.invariant-loop-need
invariant-loop-need l = fold (λ row n. if same_side n.1 l.side then insert row n.0.0 else row) l.row (drop l.need-index l.required) ≡ point_row l.side l.required
