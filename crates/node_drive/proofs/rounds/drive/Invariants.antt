use Rattle.std.proofs.Common.{◌≤◌, List}
use Rattle.node_drive.specs.Drives.{AreRounds, GoesOn, Performs, Round, in_rounds}
use Rattle.node_drive.specs.Inside.{standing_of}
use Rattle.node_drive.proofs.rounds.drive.Given as goal

-- the rounds so far, after none of which the process ended
abbrev pub invariant-loop : goal.invariant-loop
invariant-loop g l =
    let n = g.N.NodeMachine.node in
    let told = g.O.Outside.told in
    (made : List Round)
    × AreRounds g.N.NodeMachine.does made (standing_of (n l.fn.node) l.fn.course)
    × GoesOn g.N.NodeMachine.does l.for_ms l.first made (standing_of (n l.fn.node) l.fn.course)
    × Performs g.N.NodeMachine.does (in_rounds made) (standing_of (n l.fn.node) l.fn.course) (standing_of (n l.node) l.course) (told l.fn.outside) (told l.outside)
    × ((n l.node).reached ≤ (told l.outside).latest)
