use Rattle.simulator_recovery.proofs.Words.Basics.{subst, sym, arith, suc, ◌≤◌, [], ◌∷◌, ◌++◌, length}
use Rattle.simulator_recovery.proofs.Words.Stations.{round, point_link, WorldState, IsWhole}
use Rattle.simulator_recovery.proofs.Words.Recovery.{ready_rounds, IsOnCourse, and_request, all_tried, good_rounds}
use Rattle.simulator_recovery.proofs.Lemmas.RoutesComing.HeldNeeds.{needs_there}
use Rattle.simulator_recovery.proofs.Lemmas.RoutesComing.HeldRounds.{accepted_there, base_at, below_front, fewer, point_below, request_works, set_course}
use Rattle.simulator_recovery.proofs.Lemmas.Links.Ready.{count_front}
use Rattle.simulator_recovery.proofs.Lemmas.RoutesComing.UnheldAccepted.{clear_or, holders_know}
use Rattle.simulator_recovery.proofs.routes_coming.accepted_routes_come_over_clear_sections.Goals as goal

pub returns : goal.returns
returns c = λ between later before more still flowing route row flow work works before_works more_works still_works can long many row_there below accepts stays clear.
    let site = flowing.state.sited.site
    in let table = flowing.state.sited.table
    in let all = later ++ and_request route before ∷ []
    in let next = all_tried between (round flowing)
    in let start = good_rounds (between ∷ all) flowing
    in let at = base_at c.laws_below.ensures between later before flowing route flow.reached accepts
    in let accepted = accepted_there c.laws_below.ensures between later before flowing route flow.reached accepts
    in let course : IsOnCourse start.state.run.interlocking.ixl route.0 row = subst (λ (w : WorldState). IsOnCourse w.interlocking.ixl route.0 row) (sym accepted.is)
    (c.accepted_settings_are_on_course.ensures.course site table accepted.world route row flow.table accepted.reached row_there accepted.accepted)
    in let whole : IsWhole site start.state.run = subst (IsWhole site) (sym at.reached.after)
    (c.laws_below.ensures.every_world_is_safe site table at.reached.outset at.reached.events flow.once flow.station flow.table at.reached.lies at.reached.can).1.linked.whole
    in let all_long : ready_rounds ≤ suc (length all) = (let count = count_front later (and_request route before) in omega (arith, long, count))
    in c.accepted_routes_come_in_time.ensures between later before more still flowing route row flow work works before_works more_works still_works can
    long many row_there below accepts stays
    (λ need within.
    let few = needs_there site table flow.station flow.table route.0 row row_there need within
    in let ready = c.links_are_ready.ensures between all flowing (point_link site need.point) (record { flow = flow; work = work; works = request_works later route before works before_works; time = fewer all more flowing.state.run (fewer (all ++ more) still flowing.state.run can) })
    (point_below site need.point few) all_long
    ((below_front site row all more next (below_front site row (all ++ more) still next below)).points need within)
    in clear_or c.laws_below.ensures.request_is_accepted_where_admissible site table start.state.run flow.table at.reached need
    (c.set_routes_hold_their_points.ensures site table start.state.run route.0 row need flow.table row_there within (set_course start.state.run.interlocking.ixl route.0 row course))
    (holders_know c.points_held_with_authority_are_known.ensures site table start.state.run flow.once flow.station flow.table at.reached whole need few ready) (clear need within))
