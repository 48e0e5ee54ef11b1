use Rattle.simulator_recovery.proofs.Words.Basics.{[], ◌∷◌, ◌++◌}
use Rattle.simulator_recovery.proofs.Words.Recovery.{and_request, good_rounds}
use Rattle.simulator_recovery.proofs.Lemmas.RoutesComing.HeldRounds.{accepted_set, accepted_there, base_at, request_works, with_one}
use Rattle.simulator_recovery.proofs.routes_coming.accepted_routes_come.Goals as goal

pub returns-clause-proceeds : goal.returns-clause-proceeds
returns-clause-proceeds c = λ between later before more still flowing route row flow work works before_works more_works still_works can long row_there below accepts stays known.
    let site = flowing.state.sited.site
    in let table = flowing.state.sited.table
    in let rounds = later ++ and_request route before ∷ []
    in let at = base_at c.laws_below.ensures between later before flowing route flow.reached accepts
    in let accepted = accepted_there c.laws_below.ensures between later before flowing route flow.reached accepts
    in let set = accepted_set flowing.state.sited route row (more ++ still) (good_rounds (between ∷ rounds) flowing) at.same accepted
    (c.accepted_settings_are_on_course.ensures.course site table accepted.world route row flow.table accepted.reached row_there accepted.accepted)
    (c.accepted_settings_move_their_points.ensures.clear site table accepted.world route row row_there accepted.accepted) stays
    in c.routes_come.ensures.proceeds between rounds more still flowing route.0 row flow work (request_works later route before works before_works) more_works still_works can
    (with_one later (and_request route before) long) row_there below set known

pub returns-clause-shows : goal.returns-clause-shows
returns-clause-shows c = λ between later before more still flowing route row flow work works before_works more_works still_works can long row_there below accepts stays known.
    let site = flowing.state.sited.site
    in let table = flowing.state.sited.table
    in let rounds = later ++ and_request route before ∷ []
    in let at = base_at c.laws_below.ensures between later before flowing route flow.reached accepts
    in let accepted = accepted_there c.laws_below.ensures between later before flowing route flow.reached accepts
    in let set = accepted_set flowing.state.sited route row (more ++ still) (good_rounds (between ∷ rounds) flowing) at.same accepted
    (c.accepted_settings_are_on_course.ensures.course site table accepted.world route row flow.table accepted.reached row_there accepted.accepted)
    (c.accepted_settings_move_their_points.ensures.clear site table accepted.world route row row_there accepted.accepted) stays
    in c.routes_come.ensures.shows between rounds more still flowing route.0 row flow work (request_works later route before works before_works) more_works still_works can
    (with_one later (and_request route before) long) row_there below set known
