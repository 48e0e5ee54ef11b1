use Rattle.std.proofs.Common.{length}
use Rattle.node_drive.specs.Inside.{standing_of}
use Rattle.node_drive.proofs.Inputs.{CameSoFar}
use Rattle.node_drive.proofs.step.step_through.Given as goal

-- the inputs that came, and after them what is left
abbrev pub invariant-loop-node : goal.invariant-loop-node
invariant-loop-node g l =
    let n = g.N.NodeMachine.node in
    let told = g.O.Outside.told in
    CameSoFar g.N.NodeMachine.does l.reading (n l.fn.node).left (standing_of (n l.fn.node) l.fn.course) (told l.fn.outside) (told l.outside) (n l.node) l.course

abbrev pub decreases-loop-node : goal.decreases-loop-node
decreases-loop-node g l = length (g.N.NodeMachine.node l.node).left
