use Rattle.std.proofs.Common.{true, false}
use Rattle.node_drive.proofs.Calls.{stopped}
use Rattle.node_drive.proofs.Inputs.{came_calls, came_cut, came_first, came_more, came_standing, came_stopped, fewer_left, reached_still, went_as}
use Rattle.node_drive.proofs.step.step_through.Goals as goal

pub loop-node-init : goal.loop-node-init
loop-node-init g c = came_first c.args.reading (g.N.NodeMachine.node c.args.node.now) c.args.course.now (g.O.Outside.told c.args.outside.now) c.requires

pub step_on-requires : goal.step_on-requires
step_on-requires g c = c.loop-node.invariant.reached

-- no memory for the next
pub returns-in_err-step_on-clause-stopped : goal.returns-in_err-step_on-clause-stopped
returns-in_err-step_on-clause-stopped g c = stopped c.from_residual.result (came_stopped c.args.reading (g.N.NodeMachine.node c.loop-node.node) c.loop-node.course c.loop-node.invariant)

pub returns-in_err-perform-clause-stopped : goal.returns-in_err-perform-clause-stopped
returns-in_err-perform-clause-stopped g c =
    let n = g.N.NodeMachine.node in
    let went = went_as g.N.NodeMachine.does c.args.reading (n c.loop-node.node) (n c.step_on.new.self) _ true c.if-branch.true c.in_ok-step_on.ensures in
    stopped c.from_residual-in_err-perform.result (came_cut c.args.reading (n c.loop-node.node) (n c.step_on.new.self) c.loop-node.course c.loop-node.invariant went c.in_err-perform.ensures.stopped)

pub loop-node-preserved : goal.loop-node-preserved
loop-node-preserved g c =
    let n = g.N.NodeMachine.node in
    let went = went_as g.N.NodeMachine.does c.args.reading (n c.loop-node.node) (n c.step_on.new.self) _ true c.if-branch.true c.in_ok-step_on.ensures in
    let performed = c.in_ok-perform.ensures in
    came_more c.args.reading (n c.loop-node.node) (n c.step_on.new.self) (n c.perform.new.node) c.loop-node.course c.perform.new.course c.loop-node.invariant went performed.done performed.course performed.node

pub loop-node-smaller : goal.loop-node-smaller
loop-node-smaller g c =
    let n = g.N.NodeMachine.node in
    let went = went_as g.N.NodeMachine.does c.args.reading (n c.loop-node.node) (n c.step_on.new.self) _ true c.if-branch.true c.in_ok-step_on.ensures in
    fewer_left g.N.NodeMachine.does c.args.reading (n c.loop-node.node) (n c.step_on.new.self) (n c.perform.new.node) went c.in_ok-perform.ensures.node

pub returns-clause-done : goal.returns-clause-done
returns-clause-done g c =
    let n = g.N.NodeMachine.node in
    let went = went_as g.N.NodeMachine.does c.args.reading (n c.loop-node.node) (n c.step_on.new.self) _ false c.if-branch.false c.in_ok-step_on.ensures in
    came_calls c.args.reading (n c.loop-node.node) c.loop-node.course c.loop-node.invariant went.0

pub returns-clause-standing : goal.returns-clause-standing
returns-clause-standing g c =
    let n = g.N.NodeMachine.node in
    let went = went_as g.N.NodeMachine.does c.args.reading (n c.loop-node.node) (n c.step_on.new.self) _ false c.if-branch.false c.in_ok-step_on.ensures in
    came_standing c.args.reading (n c.loop-node.node) (n c.step_on.new.self) c.loop-node.course c.loop-node.invariant went.0 went.1

pub returns-clause-reached : goal.returns-clause-reached
returns-clause-reached g c =
    let n = g.N.NodeMachine.node in
    let went = went_as g.N.NodeMachine.does c.args.reading (n c.loop-node.node) (n c.step_on.new.self) _ false c.if-branch.false c.in_ok-step_on.ensures in
    reached_still c.args.reading (n c.loop-node.node) (n c.step_on.new.self) went.1 c.loop-node.invariant.reached
