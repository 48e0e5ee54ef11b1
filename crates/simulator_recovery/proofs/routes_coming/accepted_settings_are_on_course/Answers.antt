use Rattle.simulator_recovery.proofs.Lemmas.RoutesComing.RoutesCome.{on_course, proceeds_at_once}
use Rattle.simulator_recovery.proofs.routes_coming.accepted_settings_are_on_course.Goals as goal

pub returns-clause-course : goal.returns-clause-course
returns-clause-course c site table world route row is_table reached there accepted = on_course c.laws_below.ensures c.laws_below.ensures site table is_table world reached route row there accepted

pub returns-clause-at_once : goal.returns-clause-at_once
returns-clause-at_once c site table world route row is_table reached there accepted = proceeds_at_once c.laws_below.ensures c.laws_below.ensures site table is_table world reached route row there accepted
