use Rattle.simulator_recovery.proofs.Lemmas.RoutesComing.RoutesGround.{course_behind, ready_behind}
use Rattle.simulator_recovery.proofs.routes_coming.set_routes_keep_their_course.Goals as goal

pub returns-clause-course : goal.returns-clause-course
returns-clause-course c site table event world number row is_table reached there keeps up behind_up = course_behind c.laws_below.ensures site table is_table number row there event world reached keeps up behind_up

pub returns-clause-ready : goal.returns-clause-ready
returns-clause-ready c site table event world number row is_table reached there keeps up behind_up = ready_behind c.laws_below.ensures site table is_table number row there event world reached keeps up behind_up
