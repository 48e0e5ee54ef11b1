use Rattle.std.proofs.Common.{map, ◌∙◌, ap, refl}
use Rattle.node_drive.specs.Calls.{Writes}
use Rattle.node_drive.specs.Rounds.{with_datagrams}
use Rattle.node_drive.proofs.Calls.{calls_same, cuts_all, cuts_same, stopped}
use Rattle.node_drive.proofs.Performed.{performed_calls, performed_course, performed_cut_behind, performed_cut_in_lines, performed_cut_in_order, performed_node}
use Rattle.node_drive.proofs.step.perform.Goals as goal

-- it can't be noted whether it was kept
pub returns-in_err-keep-clause-stopped : goal.returns-in_err-keep-clause-stopped
returns-in_err-keep-clause-stopped g c =
    let node = g.N.NodeMachine.node c.args.node.now in
    let order = g.N.NodeMachine.does.order node.state in
    let kept = c.in_err-keep.ensures.stopped in
    stopped c.from_residual.result (kept.0, performed_cut_behind c.args.reading kept.0 node.keeps node.said node.handed order order c.args.course.now refl kept.1)

pub returns-in_err-say_all-clause-stopped : goal.returns-in_err-say_all-clause-stopped
returns-in_err-say_all-clause-stopped g c =
    let node = g.N.NodeMachine.node c.args.node.now in
    let order = g.N.NodeMachine.does.order node.state in
    let kept = c.in_ok-keep.ensures.done in
    stopped c.from_residual-in_err-say_all.result (
      kept.0,
      performed_cut_in_lines c.args.reading kept.0 node.keeps node.said node.handed order order c.args.course.now refl kept.1
          (cuts_same (ap (λ n. map Writes n.said) kept.2) c.in_err-say_all.ensures.stopped),
    )

pub returns-in_err-write_order-clause-stopped : goal.returns-in_err-write_order-clause-stopped
returns-in_err-write_order-clause-stopped g c =
    let does = g.N.NodeMachine.does in
    let node = g.N.NodeMachine.node c.args.node.now in
    let kept = c.in_ok-keep.ensures.done in
    let said = c.in_ok-say_all.ensures in
    let same = c.order.ensures ∙ ap (λ n. does.order n.state) said.node ∙ ap (λ n. does.order n.state) kept.2 in
    stopped c.from_residual-in_err-write_order.result (
      kept.0,
      performed_cut_in_order c.args.reading kept.0 node.keeps node.said node.handed _ _ c.args.course.now same kept.1 (calls_same (ap (λ n. map Writes n.said) kept.2) said.done)
          c.in_err-write_order.ensures.stopped,
    )

pub returns-in_err-take_datagrams-clause-stopped : goal.returns-in_err-take_datagrams-clause-stopped
returns-in_err-take_datagrams-clause-stopped g c =
    let does = g.N.NodeMachine.does in
    let node = g.N.NodeMachine.node c.args.node.now in
    let kept = c.in_ok-keep.ensures.done in
    let said = c.in_ok-say_all.ensures in
    let same = c.order.ensures ∙ ap (λ n. does.order n.state) said.node ∙ ap (λ n. does.order n.state) kept.2 in
    stopped c.from_residual-in_err-take_datagrams.result (
      kept.0,
      cuts_all (performed_calls c.args.reading kept.0 node.keeps node.said node.handed _ _ c.args.course.now same kept.1 (calls_same (ap (λ n. map Writes n.said) kept.2) said.done) c.in_ok-write_order.ensures.done),
    )

pub returns-clause-done : goal.returns-clause-done
returns-clause-done g c =
    let does = g.N.NodeMachine.does in
    let node = g.N.NodeMachine.node c.args.node.now in
    let kept = c.in_ok-keep.ensures.done in
    let said = c.in_ok-say_all.ensures in
    let same = c.order.ensures ∙ ap (λ n. does.order n.state) said.node ∙ ap (λ n. does.order n.state) kept.2 in
    (kept.0, performed_calls c.args.reading kept.0 node.keeps node.said node.handed _ _ c.args.course.now same kept.1 (calls_same (ap (λ n. map Writes n.said) kept.2) said.done) c.in_ok-write_order.ensures.done)

pub returns-clause-course : goal.returns-clause-course
returns-clause-course g c =
    let does = g.N.NodeMachine.does in
    let node = g.N.NodeMachine.node c.args.node.now in
    let kept = c.in_ok-keep.ensures.done in
    let said = c.in_ok-say_all.ensures in
    let same = c.order.ensures ∙ ap (λ n. does.order n.state) said.node ∙ ap (λ n. does.order n.state) kept.2 in
    let waiting = c.in_ok-take_datagrams.ensures.course
    ∙ ap (λ n. with_datagrams c.args.reading n.handed c.write_order.new.course) said.node
    ∙ ap (λ n. with_datagrams c.args.reading n.handed c.write_order.new.course) kept.2 in
    performed_course c.args.reading kept.0 node.keeps node.said node.handed _ _ c.args.course.now same _ _ c.in_ok-write_order.ensures.course waiting

pub returns-clause-node : goal.returns-clause-node
returns-clause-node g c =
    let kept = c.in_ok-keep.ensures.done in
    performed_node kept.0 (g.N.NodeMachine.node c.args.node.now) _ _ _ kept.2 c.in_ok-say_all.ensures.node c.in_ok-take_datagrams.ensures.node
