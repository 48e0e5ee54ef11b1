use Rattle.std.proofs.Common.{◌≡◌, ◌++◌, take, drop, map}
use Rattle.tds_ctl.specs.Sections.{settled}
use Rattle.tds_ctl.proofs.sections.settle_all.Given as goal

abbrev pub invariant-loop-section : goal.invariant-loop-section
invariant-loop-section l = take l.section-index l.sections ++ map settled (drop l.section-index l.sections) ≡ map settled l.initial.sections
