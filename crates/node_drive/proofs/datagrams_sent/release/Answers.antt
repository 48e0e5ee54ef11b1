use Rattle.std.proofs.Common.{◌∙◌, sym}
use Rattle.node_drive.proofs.Courses.{left_calls, left_is, none_left_calls, none_left_is}
use Rattle.node_drive.proofs.datagrams_sent.release.Goals as goal

-- nothing waits
pub returns-then-has_none_waiting-clause-done : goal.returns-then-has_none_waiting-clause-done
returns-then-has_none_waiting-clause-done g c = none_left_calls 0 c.args.course.now _ (sym c.has_none_waiting.ensures ∙ c.if-has_none_waiting.true)

pub returns-then-has_none_waiting-clause-course : goal.returns-then-has_none_waiting-clause-course
returns-then-has_none_waiting-clause-course g c = none_left_is 0 c.args.course.now (sym c.has_none_waiting.ensures ∙ c.if-has_none_waiting.true)

pub returns-clause-done : goal.returns-clause-done
returns-clause-done g c =
    left_calls c.args.course.now c.note_reading.new.self _ (sym c.has_none_waiting.ensures ∙ c.if-has_none_waiting.false) c.read_clock-reading.result c.note_reading.ensures c.course.view_is c.read_clock-reading.ensures c.send_free.ensures.done

pub returns-clause-course : goal.returns-clause-course
returns-clause-course g c =
    left_is c.args.course.now c.note_reading.new.self _ (sym c.has_none_waiting.ensures ∙ c.if-has_none_waiting.false) c.read_clock-reading.result c.note_reading.ensures c.course.view_is _ c.send_free.ensures.waiting
