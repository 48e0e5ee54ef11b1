use Rattle.std.proofs.Common.{◌≡◌, drop}
use Rattle.station_layout.specs.Search.{first_of}
use Rattle.station_layout.specs.SharedAdvice.{shared_with}
use Rattle.station_layout.specs.declared.advice.Common.TheVariants as common
use Rattle.station_layout.proofs.shared.first_shared.Given as goal

abbrev pub invariant-loop-section : goal.invariant-loop-section
invariant-loop-section l =
    first_of (λ section. shared_with l.written l.place (common.Section section)) (drop l.section-index l.sections)
    ≡ first_of (λ section. shared_with l.written l.place (common.Section section)) l.sections
