use Rattle.std.proofs.lemmas.Result.{on_ok_weaker}
use Rattle.node_drive.proofs.Courses.{added_is}
use Rattle.node_drive.proofs.datagrams_sent.take_datagrams.Goals as goal

pub returns-clause-course : goal.returns-clause-course
returns-clause-course g c =
    on_ok_weaker c.add_datagrams.result (λ waiting. added_is c.args.course.now _ c.course.view_is c.args.reading _ _ waiting) c.add_datagrams.ensures.waiting
