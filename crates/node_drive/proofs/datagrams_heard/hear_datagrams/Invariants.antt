use Rattle.std.proofs.Common.{◌≡◌, ◌≤◌, List, length, map}
use Rattle.node_drive.specs.Calls.{Arrival}
use Rattle.node_drive.specs.Drives.{AreHeard, Performs, Timed, datagram_in}
use Rattle.node_drive.specs.Inside.{standing_of}
use Rattle.node_drive.proofs.datagrams_heard.hear_datagrams.Given as goal

-- the datagrams so far
abbrev pub invariant-loop-taken : goal.invariant-loop-taken
invariant-loop-taken g l =
    let n = g.N.NodeMachine.node in
    let told = g.O.Outside.told in
    (datagrams : List (Timed Arrival))
    × (length datagrams ≡ l.taken)
    × AreHeard g.N.NodeMachine.does datagrams (standing_of (n l.fn.node) l.fn.course)
    × Performs g.N.NodeMachine.does (map datagram_in datagrams) (standing_of (n l.fn.node) l.fn.course) (standing_of (n l.node) l.course) (told l.fn.outside) (told l.outside)
    × ((n l.node).reached ≤ (told l.outside).latest)
