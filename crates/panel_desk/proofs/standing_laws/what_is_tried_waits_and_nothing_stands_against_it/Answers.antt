use Rattle.std.proofs.Common.{[]}
use Rattle.panel_desk.specs.StandingOrders.{is_apart_in, is_shut_in, now_waiting}
use Rattle.panel_desk.proofs.Tries.{turn_at, unopposed_at, waits_at}
use Rattle.panel_desk.proofs.standing_laws.what_is_tried_waits_and_nothing_stands_against_it.Goals as goal

pub returns-clause-waits : goal.returns-clause-waits
returns-clause-waits c site lines now old new routes route turn has =
    waits_at site lines now (now_waiting lines old) route (turn_at site lines now old new routes route (is_shut_in lines) (is_apart_in lines) turn has)

pub returns-clause-unopposed : goal.returns-clause-unopposed
returns-clause-unopposed c site lines now old new routes route line turn has told against =
    unopposed_at site lines now [] (now_waiting lines old) route line (turn_at site lines now old new routes route (is_shut_in lines) (is_apart_in lines) turn has) told against
