use Rattle.std.proofs.Common.{◌≡◌, ◌≤◌, ◌++◌, length, take}
use Rattle.controllers_c.specs.Sections.{spelled_all}
use Rattle.controllers_c.proofs.SectionsLeft.{Leaves}
use Rattle.controllers_c.proofs.sections.detection_of.Given as goal

abbrev pub invariant-loop-rest : goal.invariant-loop-rest
invariant-loop-rest l = (l.count ≤ 16) × (l.fn.bytes ≡ spelled_all (take l.count l.sections) ++ l.rest) × (length l.sections ≡ 16) × Leaves l.fn.bytes l.count l.rest

abbrev pub decreases-loop-rest : goal.decreases-loop-rest
decreases-loop-rest l = length l.rest
