use Rattle.std.proofs.Common.{◌≡◌, ◌++◌, take, drop}
use Rattle.tds_ctl.specs.Sections.{paying}
use Rattle.tds_ctl.proofs.sections.settle_first.Given as goal

abbrev pub invariant-loop-section : goal.invariant-loop-section
invariant-loop-section l =
    (l.sections ≡ l.initial.sections)
    × (take l.section-index l.sections ++ paying (drop l.section-index l.sections) ≡ paying l.initial.sections)
