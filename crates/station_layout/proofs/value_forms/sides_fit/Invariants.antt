use Rattle.std.proofs.Common.{◌≡◌}
use Rattle.toml.specs.View.{members_view, table_view}
use Rattle.station_layout.specs.ValueForms.{sides_fit}
use Rattle.station_layout.proofs.value_forms.sides_fit.Given as goal

abbrev pub invariant-loop-point : goal.invariant-loop-point
invariant-loop-point l =
    (goal.iterator-loop-point).can_next l.point-iterator ×
    (goal.iterator-loop-point).is_finite l.point-iterator ×
    (sides_fit (members_view l.point-iterator) ≡ sides_fit (table_view l.members))
