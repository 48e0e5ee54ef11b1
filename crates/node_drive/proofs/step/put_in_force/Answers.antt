use Rattle.node_drive.proofs.Forced.{known_calls, known_course, unknown_calls, unknown_course}
use Rattle.node_drive.proofs.step.put_in_force.Goals as goal

-- no line has this number
pub returns-then-number-written-clause-done : goal.returns-then-number-written-clause-done
returns-then-number-written-clause-done g c =
    unknown_calls c.args.number c.args.course.now c.written.result c.heard.result c.written.ensures c.if-number-written.true c.heard.ensures c.complain.ensures

pub returns-then-number-written-clause-course : goal.returns-then-number-written-clause-course
returns-then-number-written-clause-course g c = unknown_course c.args.number c.args.course.now c.written.result c.written.ensures c.if-number-written.true

pub returns-clause-done : goal.returns-clause-done
returns-clause-done g c = known_calls c.args.number c.args.course.now _ c.written.result c.written.ensures c.if-number-written.false

pub returns-clause-course : goal.returns-clause-course
returns-clause-course g c = known_course c.args.number c.args.course.now c.written.result c.note_in_force.new.self c.written.ensures c.if-number-written.false c.note_in_force.ensures
