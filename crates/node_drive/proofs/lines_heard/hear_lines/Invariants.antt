use Rattle.std.proofs.Common.{◌≡◌, ◌≤◌, ℕ, List, length, map}
use Rattle.node_drive.specs.Drives.{Performs, Timed, line_in}
use Rattle.node_drive.specs.Inside.{standing_of}
use Rattle.node_drive.proofs.lines_heard.hear_lines.Given as goal

-- the lines so far
abbrev pub invariant-loop-taken : goal.invariant-loop-taken
invariant-loop-taken g l =
    let n = g.N.NodeMachine.node in
    let told = g.O.Outside.told in
    (lines : List (Timed (List ℕ)))
    × (length lines ≡ l.taken)
    × Performs g.N.NodeMachine.does (map line_in lines) (standing_of (n l.fn.node) l.fn.course) (standing_of (n l.node) l.course) (told l.fn.outside) (told l.outside)
    × ((n l.node).reached ≤ (told l.outside).latest)
