use Rattle.std.proofs.Common.{true}
use Rattle.node_drive.proofs.Calls.{stopped}
use Rattle.node_drive.proofs.Kept.{asked_calls, nothing_calls, nothing_kept}
use Rattle.node_drive.proofs.step.keep.Goals as goal

-- nothing is asked for
pub returns-in_default-clause-done : goal.returns-in_default-clause-done
returns-in_default-clause-done g c =
    let node = g.N.NodeMachine.node c.args.node.now in
    (true, nothing_calls _ node.keeps c.in_default.ensures, nothing_kept node c.in_default.ensures)

pub returns-in_err-note_kept-clause-stopped : goal.returns-in_err-note_kept-clause-stopped
returns-in_err-note_kept-clause-stopped g c =
    let node = g.N.NodeMachine.node c.args.node.now in
    stopped c.from_residual.result (c.keep-kept.result, asked_calls c.keep-kept.result c.in-Some.all node.keeps c.in-Some.ensures c.keep-kept.ensures)

pub returns-clause-done : goal.returns-clause-done
returns-clause-done g c =
    let node = g.N.NodeMachine.node c.args.node.now in
    (c.keep-kept.result, asked_calls c.keep-kept.result c.in-Some.all node.keeps c.in-Some.ensures c.keep-kept.ensures, c.in_ok-note_kept.ensures)
