use Rattle.std.proofs.Common.{◌≡◌, ◌++◌, List, length, map}
use Rattle.node_drive.specs.Inside.{waiting_of_code}
use Rattle.node_drive.specs.Waiting.{Addressed, waiting_of}
use Rattle.node_drive.proofs.datagrams_sent.add_datagrams.Given as goal

-- the datagrams so far, and after them what is left
abbrev pub invariant-loop-one : goal.invariant-loop-one
invariant-loop-one g l =
    let n = g.N.NodeMachine.node in
    (done : List Addressed)
    × (done ++ (n l.node).handed ≡ (n l.fn.node).handed)
    × (map waiting_of_code l.waiting.items ≡ map waiting_of_code l.fn.waiting.items ++ waiting_of l.behind l.since done)
    × (n l.node ≡ record (n l.fn.node) { handed = (n l.node).handed })

abbrev pub decreases-loop-one : goal.decreases-loop-one
decreases-loop-one g l = length (g.N.NodeMachine.node l.node).handed
