use Rattle.simulator_recovery.proofs.Lemmas.RoutesComing.DueAccepted.{accepted_admissible, accepted_clear, accepted_goes_on, accepted_points}
use Rattle.simulator_recovery.proofs.routes_coming.accepted_settings_move_their_points.Goals as goal

pub returns-clause-admissible : goal.returns-clause-admissible
returns-clause-admissible c site table world route = accepted_admissible site table world route c.laws_below.ensures.request_is_accepted_where_admissible

pub returns-clause-set : goal.returns-clause-set
returns-clause-set c = accepted_goes_on

pub returns-clause-clear : goal.returns-clause-clear
returns-clause-clear c site table world route = accepted_clear site table world route c.laws_below.ensures.request_is_accepted_where_admissible

pub returns-clause-points : goal.returns-clause-points
returns-clause-points c site table world route = accepted_points site table world route c.laws_below.ensures.move_is_given_where_due c.laws_below.ensures.request_is_accepted_where_admissible
