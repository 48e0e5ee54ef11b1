use Rattle.std.proofs.Common.{◌≡◌}
use Rattle.toml.specs.View.{members_view, table_view}
use Rattle.layout_text.specs.Text.{sides_of}
use Rattle.layout_text.proofs.Loops.{with_front}
use Rattle.layout_text.proofs.entries_read.sides_in.Given as goal

abbrev pub invariant-loop-point : goal.invariant-loop-point
invariant-loop-point l =
    (goal.iterator-loop-point).can_next l.point-iterator ×
    (goal.iterator-loop-point).is_finite l.point-iterator ×
    (with_front l.sides.items (sides_of l.place (members_view l.point-iterator)) ≡ sides_of l.place (table_view l.members))
