use Rattle.std.proofs.Common.{take}
use Rattle.ixl_table.specs.inside.Made.{NoneReports}
use Rattle.ixl_table.proofs.reporters.reporter_of.Given as goal

abbrev pub invariant-loop-index : goal.invariant-loop-index
invariant-loop-index l = NoneReports (take l.index l.detectors) l.section
