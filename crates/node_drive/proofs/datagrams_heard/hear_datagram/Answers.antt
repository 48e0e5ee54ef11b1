use Rattle.std.proofs.Common.{◌∙◌, List, ℕ, true, sym, ap, arith}
use Rattle.std.proofs.lemmas.Result.{on_err_weaker, on_ok_weaker}
use Rattle.node_drive.specs.Inside.{standing_of}
use Rattle.node_drive.specs.Kinds.{node_after}
use Rattle.node_drive.proofs.Calls.{both_ok, calls_none, calls_same, cuts_none, cuts_same, stopped}
use Rattle.node_drive.proofs.Stepped.{dropped_is, step_calls, step_cut, step_reached, step_standing, taken_is}
use Rattle.node_drive.proofs.datagrams_heard.hear_datagram.Goals as goal

-- it is dropped
pub returns-then-not-is_taken-clause-done : goal.returns-then-not-is_taken-clause-done
returns-then-not-is_taken-clause-done g c =
    let does = g.N.NodeMachine.does in
    let here = standing_of (g.N.NodeMachine.node c.args.node.now) c.args.course.now in
    let strange = sym c.is_taken.ensures ∙ c.if-not-is_taken.true in
    (true, calls_same (ap (λ d. d.0) (dropped_is does c.args.reading true c.args.arrived.now.origin c.args.arrived.now.bytes.items here strange)) (calls_none _))

pub returns-then-not-is_taken-clause-standing : goal.returns-then-not-is_taken-clause-standing
returns-then-not-is_taken-clause-standing g c =
    let does = g.N.NodeMachine.does in
    let node = g.N.NodeMachine.node c.args.node.now in
    let strange = sym c.is_taken.ensures ∙ c.if-not-is_taken.true in
    ap (standing_of node) c.note_stranger.ensures
    ∙ ap (λ d. d.1) (dropped_is does c.args.reading true c.args.arrived.now.origin c.args.arrived.now.bytes.items (standing_of node c.args.course.now) strange)

-- no memory for its step
pub returns-in_err-hear-clause-stopped : goal.returns-in_err-hear-clause-stopped
returns-in_err-hear-clause-stopped g c = stopped c.from_residual.result (true, cuts_none _ _)

pub returns-clause-done : goal.returns-clause-done
returns-clause-done g c =
    let does = g.N.NodeMachine.does in
    let n = g.N.NodeMachine.node in
    let old = n c.args.node.now in
    let new = n c.hear.new.self in
    let bytes : List ℕ = c.args.arrived.now.bytes.items in
    let taken = sym c.is_taken.ensures ∙ c.if-not-is_taken.false in
    let heard = c.in_ok-hear.ensures ∙ ap (λ (b : List ℕ). node_after does c.args.reading (does.datagram b) old) c.deref.ensures.0 in
    on_ok_weaker c.perform.result
    (λ calls. (calls.0, calls_same (ap (λ d. d.0) (taken_is does c.args.reading calls.0 c.args.arrived.now.origin bytes (standing_of old c.args.course.now) taken)) (step_calls does c.args.reading calls.0 (does.datagram bytes) c.args.course.now old new heard calls.1)))
    c.perform.ensures.done

pub returns-clause-standing : goal.returns-clause-standing
returns-clause-standing g c =
    let does = g.N.NodeMachine.does in
    let n = g.N.NodeMachine.node in
    let old = n c.args.node.now in
    let new = n c.hear.new.self in
    let bytes : List ℕ = c.args.arrived.now.bytes.items in
    let taken = sym c.is_taken.ensures ∙ c.if-not-is_taken.false in
    let heard = c.in_ok-hear.ensures ∙ ap (λ (b : List ℕ). node_after does c.args.reading (does.datagram b) old) c.deref.ensures.0 in
    on_ok_weaker c.perform.result
    (λ both.
    step_standing does c.args.reading true (does.datagram bytes) c.args.course.now c.perform.new.course old new (n c.perform.new.node) heard both.0 both.1
    ∙ ap (λ d. d.1) (taken_is does c.args.reading true c.args.arrived.now.origin bytes (standing_of old c.args.course.now) taken))
    (both_ok _ _ c.perform.result c.perform.ensures.course c.perform.ensures.node)

pub returns-clause-reached : goal.returns-clause-reached
returns-clause-reached g c =
    let does = g.N.NodeMachine.does in
    let n = g.N.NodeMachine.node in
    let old = n c.args.node.now in
    let new = n c.hear.new.self in
    let bytes : List ℕ = c.args.arrived.now.bytes.items in
    let heard = c.in_ok-hear.ensures ∙ ap (λ (b : List ℕ). node_after does c.args.reading (does.datagram b) old) c.deref.ensures.0 in
    on_ok_weaker c.perform.result
    (λ node. let same = step_reached does c.args.reading (does.datagram bytes) old new (n c.perform.new.node) heard node in omega (arith, same))
    c.perform.ensures.node

pub returns-clause-stopped : goal.returns-clause-stopped
returns-clause-stopped g c =
    let does = g.N.NodeMachine.does in
    let n = g.N.NodeMachine.node in
    let old = n c.args.node.now in
    let new = n c.hear.new.self in
    let bytes : List ℕ = c.args.arrived.now.bytes.items in
    let taken = sym c.is_taken.ensures ∙ c.if-not-is_taken.false in
    let heard = c.in_ok-hear.ensures ∙ ap (λ (b : List ℕ). node_after does c.args.reading (does.datagram b) old) c.deref.ensures.0 in
    on_err_weaker c.perform.result
    (λ cut. (cut.0, cuts_same (ap (λ d. d.0) (taken_is does c.args.reading cut.0 c.args.arrived.now.origin bytes (standing_of old c.args.course.now) taken)) (step_cut does c.args.reading cut.0 (does.datagram bytes) c.args.course.now old new heard cut.1)))
    c.perform.ensures.stopped
