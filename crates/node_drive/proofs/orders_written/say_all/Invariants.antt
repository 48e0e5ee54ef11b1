use Rattle.std.proofs.Common.{◌≡◌, ◌++◌, ℕ, List, length, map}
use Rattle.node_drive.specs.Calls.{Calls, Writes}
use Rattle.node_drive.proofs.orders_written.say_all.Given as goal

-- the lines so far, and after them what is left
abbrev pub invariant-loop-line : goal.invariant-loop-line
invariant-loop-line g l =
    let n = g.N.NodeMachine.node in
    (done : List (List ℕ))
    × (done ++ (n l.node).said ≡ (n l.fn.node).said)
    × Calls (g.O.Outside.told l.fn.outside) (g.O.Outside.told l.outside) (map Writes done)
    × (n l.node ≡ record (n l.fn.node) { said = (n l.node).said })

abbrev pub decreases-loop-line : goal.decreases-loop-line
decreases-loop-line g l = length (g.N.NodeMachine.node l.node).said
