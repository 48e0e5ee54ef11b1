use Rattle.std.proofs.Common.{◌≡◌, ◌++◌, map, take}
use Rattle.node_kinds.specs.Counted.{line_of}
use Rattle.node_kinds.specs.inside.InterlockingSteps.{texts}
use Rattle.node_kinds.proofs.counting.say_rows.Given as goal

-- the lines so far
abbrev pub invariant-loop-row : goal.invariant-loop-row
invariant-loop-row l = texts l.said ≡ texts l.initial.said ++ map (line_of l.numbers) (take l.row-index l.rows)
