use Rattle.std.proofs.Common.{◌≡◌, ◌++◌, take}
use Rattle.std.specs.List.{flat_map}
use Rattle.railway_check.specs.FaultLines.{told_of}
use Rattle.railway_check.proofs.fault_lines.add_faults.Given as goal

abbrev pub invariant-loop-fault : goal.invariant-loop-fault
invariant-loop-fault l = l.text.items ≡ l.fn.text.items ++ flat_map (told_of l.explained l.railway) (take l.fault-index l.faults)
