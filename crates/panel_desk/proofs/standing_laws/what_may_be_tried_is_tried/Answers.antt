use Rattle.panel_desk.specs.StandingOrders.{is_apart_in, is_shut_in}
use Rattle.panel_desk.proofs.Tries.{turn_reaches}
use Rattle.panel_desk.proofs.standing_laws.what_may_be_tried_is_tried.Goals as goal

pub returns : goal.returns
returns c site lines now old new routes before more one turn unshut near is may =
    turn_reaches site lines now old new routes before more one (is_shut_in lines) (is_apart_in lines) turn unshut near is may
