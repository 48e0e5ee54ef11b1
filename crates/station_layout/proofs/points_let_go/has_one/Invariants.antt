use Rattle.std.proofs.Common.{◌≡◌, drop}
use Rattle.std.specs.FinSet.{contains}
use Rattle.std.specs.List.{list_any}
use Rattle.station_layout.proofs.points_let_go.has_one.Given as goal

abbrev pub invariant-loop-section : goal.invariant-loop-section
invariant-loop-section l =
    list_any (λ section. contains l.awaited section.0) (drop l.section-index l.sections) ≡ list_any (λ section. contains l.awaited section.0) l.sections
