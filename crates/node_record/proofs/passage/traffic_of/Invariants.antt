use Rattle.std.proofs.Common.{◌≡◌, ◌++◌, length, map}
use Rattle.node_record.specs.NodeTraffic.{traffic}
use Rattle.node_record.specs.RecordLines.{told}
use Rattle.node_record.specs.inside.Passing.{seen}
use Rattle.node_record.proofs.passage.traffic_of.Given as goal

-- what was found so far, and after it what the lines tell that are left
abbrev pub invariant-loop-left : goal.invariant-loop-left
invariant-loop-left l = map seen l.all.items ++ traffic l.node l.latest (map told l.left) ≡ traffic l.node 0 (map told l.lines)

abbrev pub decreases-loop-left : goal.decreases-loop-left
decreases-loop-left l = length l.left
