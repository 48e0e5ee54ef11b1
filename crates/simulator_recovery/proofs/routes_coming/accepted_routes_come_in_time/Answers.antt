use Rattle.simulator_recovery.proofs.Words.Basics.{inl, [], ◌∷◌, ◌++◌}
use Rattle.simulator_recovery.proofs.Words.Stations.{round, point_link}
use Rattle.simulator_recovery.proofs.Words.Recovery.{and_request, all_tried, good_rounds}
use Rattle.simulator_recovery.proofs.Lemmas.RoutesComing.HeldNeeds.{needs_there}
use Rattle.simulator_recovery.proofs.Lemmas.RoutesComing.HeldRounds.{accepted_known, accepted_set, accepted_there, base_at, below_front, coming_or, fewer, point_below, request_works, set_course, with_one}
use Rattle.simulator_recovery.proofs.routes_coming.accepted_routes_come_in_time.Goals as goal

pub returns : goal.returns
returns c = λ between later before more still flowing route row flow work works before_works more_works still_works can long many row_there below accepts stays may.
    let site = flowing.state.sited.site
    in let table = flowing.state.sited.table
    in let rounds = later ++ and_request route before ∷ []
    in let next = all_tried between (round flowing)
    in let start = good_rounds (between ∷ rounds) flowing
    in let rounds_works = request_works later route before works before_works
    in let at = base_at c.laws_below.ensures between later before flowing route flow.reached accepts
    in let accepted = accepted_there c.laws_below.ensures between later before flowing route flow.reached accepts
    in let set = accepted_set flowing.state.sited route row (more ++ still) start at.same accepted
    (c.accepted_settings_are_on_course.ensures.course site table accepted.world route row flow.table accepted.reached row_there accepted.accepted)
    (c.accepted_settings_move_their_points.ensures.clear site table accepted.world route row row_there accepted.accepted) stays
    in let some = fewer rounds more flowing.state.run (fewer (rounds ++ more) still flowing.state.run can)
    in let some_below = below_front site row rounds more next (below_front site row (rounds ++ more) still next below)
    in let soon = with_one later (and_request route before) long
    in c.set_routes_come_in_time.ensures between rounds more still flowing route.0 row flow work rounds_works more_works still_works
    can soon many row_there below set
    (λ need within. let few = needs_there site table flow.station flow.table route.0 row row_there need within
    in inl (coming_or c.laws_below.ensures site table flow.station flow.once start.state.run at.reached need few
    (c.links_are_ready.ensures between rounds flowing (point_link site need.point) (record { flow = flow; work = work; works = rounds_works; time = some })
    (point_below site need.point few) soon (some_below.points need within))
    (λ one other route point side another. c.points_of_proceeding_routes_are_known.ensures site table start.state.run one other route point side another flow.table at.reached)
    (c.set_routes_hold_their_points.ensures site table start.state.run route.0 row need flow.table row_there within (set_course start.state.run.interlocking.ixl route.0 row set.course))
    (accepted_known site table route start.state.run accepted need
    (c.accepted_settings_move_their_points.ensures.points site table accepted.world route row need row_there within accepted.accepted)) (may need within)))
