use Rattle.std.proofs.Common.{◌≡◌, drop}
use Rattle.toml.specs.View.{items_view}
use Rattle.station_layout.specs.ValueForms.{unfit_item}
use Rattle.station_layout.proofs.value_forms.unfit_item.Given as goal

abbrev pub invariant-loop-item : goal.invariant-loop-item
invariant-loop-item l =
    unfit_item l.place l.key l.one l.at (items_view (drop l.item-index l.items)) ≡ unfit_item l.place l.key l.one 0 (items_view l.items)
