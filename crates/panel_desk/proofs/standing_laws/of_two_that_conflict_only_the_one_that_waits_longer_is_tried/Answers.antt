use Rattle.panel_desk.specs.StandingOrders.{is_apart_in, is_shut_in, now_waiting}
use Rattle.panel_desk.proofs.LeftAlone.{once_now}
use Rattle.panel_desk.proofs.Tries.{longer_hindered, not_alone, turn_apart, turn_at}
use Rattle.panel_desk.proofs.standing_laws.of_two_that_conflict_only_the_one_that_waits_longer_is_tried.Goals as goal

pub returns-clause-one : goal.returns-clause-one
returns-clause-one c site lines now old new routes first second turn has other conflict =
    turn_apart site (c.conflicts_go_both_ways.ensures site) lines now old new routes first second (is_shut_in lines) (is_apart_in lines) turn has other conflict

pub returns-clause-longer : goal.returns-clause-longer
returns-clause-longer c site lines now old new routes longer route turn once waits conflict only has =
    not_alone site lines longer
    (longer_hindered site lines now (now_waiting lines old) longer route (once_now lines old once)
    (turn_at site lines now old new routes route (is_shut_in lines) (is_apart_in lines) turn has) waits conflict)
    only

pub returns-clause-hindered : goal.returns-clause-hindered
returns-clause-hindered c site lines now old new routes longer route turn once waits conflict has =
    longer_hindered site lines now (now_waiting lines old) longer route (once_now lines old once)
    (turn_at site lines now old new routes route (is_shut_in lines) (is_apart_in lines) turn has) waits conflict
