use Rattle.std.proofs.Common.{[], ◌∙◌, sym, ap, arith}
use Rattle.std.proofs.lemmas.Result.{on_err_weaker, on_ok_weaker}
use Rattle.node_drive.specs.Kinds.{meaning_of}
use Rattle.node_drive.proofs.Calls.{cuts_none, stopped}
use Rattle.node_drive.proofs.Lined.{answer_cut, faulty_left, faulty_told, forced_left, forced_told, inputs_cut, inputs_left, inputs_told, same_reached, told_reached}
use Rattle.node_drive.proofs.step.hear_line.Goals as goal

pub returns-in_default-clause-stopped : goal.returns-in_default-clause-stopped
returns-in_default-clause-stopped g c = ([], cuts_none _ _)

pub returns-in_err-told-clause-stopped : goal.returns-in_err-told-clause-stopped
returns-in_err-told-clause-stopped g c = stopped c.from_residual.result ([], cuts_none _ _)

-- an order is in force
pub returns-in-InForce-clause-done : goal.returns-in-InForce-clause-done
returns-in-InForce-clause-done g c =
    let n = g.N.NodeMachine.node in
    let does = g.N.NodeMachine.does in
    let old = n c.args.node.now in
    let mid = n c.take_line.new.self in
    let rest = c.in_ok-told.ensures.rest in
    let meaning = ap (λ m. meaning_of m mid) (sym c.in-InForce.is) ∙ c.in_ok-told.ensures.meaning in
    ([], forced_told does c.args.reading [] c.args.text.now c.args.course.now c.hear_line.new.self c.in-Some.ensures.1 old mid rest c.in-InForce.number meaning c.put_in_force.ensures.done)

pub returns-in-InForce-clause-standing : goal.returns-in-InForce-clause-standing
returns-in-InForce-clause-standing g c =
    let n = g.N.NodeMachine.node in
    let does = g.N.NodeMachine.does in
    let old = n c.args.node.now in
    let mid = n c.take_line.new.self in
    let rest = c.in_ok-told.ensures.rest in
    let meaning = ap (λ m. meaning_of m mid) (sym c.in-InForce.is) ∙ c.in_ok-told.ensures.meaning in
    forced_left does c.args.reading [] c.args.text.now c.args.course.now c.hear_line.new.self c.in-Some.ensures.1 old mid rest c.in-InForce.number c.put_in_force.new.course meaning c.put_in_force.ensures.course

pub returns-in-InForce-clause-reached : goal.returns-in-InForce-clause-reached
returns-in-InForce-clause-reached g c =
    let n = g.N.NodeMachine.node in
    let does = g.N.NodeMachine.does in
    let old = n c.args.node.now in
    let mid = n c.take_line.new.self in
    let rest = c.in_ok-told.ensures.rest in
    let same = same_reached does c.args.reading [] c.args.text.now c.args.course.now c.hear_line.new.self c.in-Some.ensures.1 old mid rest in
    let reached = c.requires in
    omega (arith, same, reached)

-- the inputs come
pub returns-in_err-say_all-in-Comes-clause-stopped : goal.returns-in_err-say_all-in-Comes-clause-stopped
returns-in_err-say_all-in-Comes-clause-stopped g c =
    let n = g.N.NodeMachine.node in
    let does = g.N.NodeMachine.does in
    let old = n c.args.node.now in
    let mid = n c.take_line.new.self in
    let rest = c.in_ok-told.ensures.rest in
    let meaning = ap (λ m. meaning_of m mid) (sym c.in-Comes.is) ∙ c.in_ok-told.ensures.meaning in
    stopped c.from_residual-in_err-say_all-in-Comes.result ([], answer_cut does c.args.reading [] c.args.text.now c.args.course.now c.hear_line.new.self c.in-Some.ensures.1 old mid rest meaning c.in_err-say_all-in-Comes.ensures.stopped)

pub step_through-requires : goal.step_through-requires
step_through-requires g c =
    let n = g.N.NodeMachine.node in
    let does = g.N.NodeMachine.does in
    let old = n c.args.node.now in
    let mid = n c.take_line.new.self in
    let rest = c.in_ok-told.ensures.rest in
    let same = told_reached does c.args.reading [] c.args.text.now c.args.course.now c.hear_line.new.self c.in-Some.ensures.1 old mid rest (n c.say_all.new.node) c.in_ok-say_all-in-Comes.ensures.node in
    let reached = c.requires in
    omega (arith, same, reached)

pub returns-in_ok-say_all-in-Comes-clause-done : goal.returns-in_ok-say_all-in-Comes-clause-done
returns-in_ok-say_all-in-Comes-clause-done g c =
    let n = g.N.NodeMachine.node in
    let does = g.N.NodeMachine.does in
    let old = n c.args.node.now in
    let mid = n c.take_line.new.self in
    let rest = c.in_ok-told.ensures.rest in
    let meaning = ap (λ m. meaning_of m mid) (sym c.in-Comes.is) ∙ c.in_ok-told.ensures.meaning in
    let said = c.in_ok-say_all-in-Comes.ensures in
    on_ok_weaker c.step_through.result (λ calls. (calls.0, inputs_told does c.args.reading calls.0 c.args.text.now c.args.course.now c.hear_line.new.self c.in-Some.ensures.1 old mid rest (n c.say_all.new.node) said.node meaning said.done calls.1)) c.step_through.ensures.done

pub returns-in_ok-say_all-in-Comes-clause-standing : goal.returns-in_ok-say_all-in-Comes-clause-standing
returns-in_ok-say_all-in-Comes-clause-standing g c =
    let n = g.N.NodeMachine.node in
    let does = g.N.NodeMachine.does in
    let old = n c.args.node.now in
    let mid = n c.take_line.new.self in
    let rest = c.in_ok-told.ensures.rest in
    let meaning = ap (λ m. meaning_of m mid) (sym c.in-Comes.is) ∙ c.in_ok-told.ensures.meaning in
    let said = c.in_ok-say_all-in-Comes.ensures in
    on_ok_weaker c.step_through.result (λ after. inputs_left does c.args.reading [] c.args.text.now c.args.course.now c.hear_line.new.self c.in-Some.ensures.1 old mid rest (n c.say_all.new.node) said.node _ meaning after) c.step_through.ensures.standing

pub returns-in_ok-say_all-in-Comes-clause-stopped : goal.returns-in_ok-say_all-in-Comes-clause-stopped
returns-in_ok-say_all-in-Comes-clause-stopped g c =
    let n = g.N.NodeMachine.node in
    let does = g.N.NodeMachine.does in
    let old = n c.args.node.now in
    let mid = n c.take_line.new.self in
    let rest = c.in_ok-told.ensures.rest in
    let meaning = ap (λ m. meaning_of m mid) (sym c.in-Comes.is) ∙ c.in_ok-told.ensures.meaning in
    let said = c.in_ok-say_all-in-Comes.ensures in
    on_err_weaker c.step_through.result (λ cut. (cut.0, inputs_cut does c.args.reading cut.0 c.args.text.now c.args.course.now c.hear_line.new.self c.in-Some.ensures.1 old mid rest (n c.say_all.new.node) said.node meaning said.done cut.1)) c.step_through.ensures.stopped

-- the line is faulty
pub returns-in-Faulty-clause-done : goal.returns-in-Faulty-clause-done
returns-in-Faulty-clause-done g c =
    let n = g.N.NodeMachine.node in
    let does = g.N.NodeMachine.does in
    let old = n c.args.node.now in
    let mid = n c.take_line.new.self in
    let rest = c.in_ok-told.ensures.rest in
    let meaning = ap (λ m. meaning_of m mid) (sym c.in-Faulty.is) ∙ c.in_ok-told.ensures.meaning in
    ([], faulty_told does c.args.reading [] c.args.text.now c.args.course.now c.hear_line.new.self c.in-Some.ensures.1 old mid rest c.in-Some.heard c.in-Faulty.fault c.in-Some.ensures.0 meaning c.complain.ensures)

pub returns-in-Faulty-clause-standing : goal.returns-in-Faulty-clause-standing
returns-in-Faulty-clause-standing g c =
    let n = g.N.NodeMachine.node in
    let does = g.N.NodeMachine.does in
    let old = n c.args.node.now in
    let mid = n c.take_line.new.self in
    let rest = c.in_ok-told.ensures.rest in
    let meaning = ap (λ m. meaning_of m mid) (sym c.in-Faulty.is) ∙ c.in_ok-told.ensures.meaning in
    faulty_left does c.args.reading [] c.args.text.now c.args.course.now c.hear_line.new.self c.in-Some.ensures.1 old mid rest c.in-Faulty.fault meaning

pub returns-in-Faulty-clause-reached : goal.returns-in-Faulty-clause-reached
returns-in-Faulty-clause-reached g c =
    let n = g.N.NodeMachine.node in
    let does = g.N.NodeMachine.does in
    let old = n c.args.node.now in
    let mid = n c.take_line.new.self in
    let rest = c.in_ok-told.ensures.rest in
    let same = same_reached does c.args.reading [] c.args.text.now c.args.course.now c.hear_line.new.self c.in-Some.ensures.1 old mid rest in
    let reached = c.requires in
    omega (arith, same, reached)
