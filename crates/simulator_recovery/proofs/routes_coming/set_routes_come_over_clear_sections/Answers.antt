use Rattle.simulator_recovery.proofs.Words.Basics.{subst, sym, ◌∷◌, ◌++◌}
use Rattle.simulator_recovery.proofs.Words.Stations.{round, point_link, IsWhole}
use Rattle.simulator_recovery.proofs.Words.Recovery.{all_tried, good_rounds}
use Rattle.simulator_recovery.proofs.Lemmas.RoutesComing.HeldNeeds.{needs_there}
use Rattle.simulator_recovery.proofs.Lemmas.RoutesComing.HeldRounds.{below_front, fewer, point_below, set_course}
use Rattle.simulator_recovery.proofs.Lemmas.Rounds.Rounds.{reached_on}
use Rattle.simulator_recovery.proofs.Lemmas.RoutesComing.UnheldAccepted.{clear_yet, holders_know}
use Rattle.simulator_recovery.proofs.routes_coming.set_routes_come_over_clear_sections.Goals as goal

pub returns : goal.returns
returns c = λ between later more still flowing number row flow work works more_works still_works can long many row_there below set clear.
    let site = flowing.state.sited.site
    in let table = flowing.state.sited.table
    in let next = all_tried between (round flowing)
    in let start = good_rounds (between ∷ later) flowing
    in let at = reached_on c.laws_below.ensures (between ∷ later) flowing flow.reached
    in let whole : IsWhole site start.state.run = subst (IsWhole site) (sym at.after)
    (c.laws_below.ensures.every_world_is_safe site table at.outset at.events flow.once flow.station flow.table at.lies at.can).1.linked.whole
    in c.set_routes_come_in_time.ensures between later more still flowing number row flow work works more_works still_works can
    long many row_there below set
    (λ need within.
    let few = needs_there site table flow.station flow.table number row row_there need within
    in let ready = c.links_are_ready.ensures between later flowing (point_link site need.point) (record { flow = flow; work = work; works = works; time = fewer later more flowing.state.run (fewer (later ++ more) still flowing.state.run can) })
    (point_below site need.point few) long
    ((below_front site row later more next (below_front site row (later ++ more) still next below)).points need within)
    in clear_yet c.laws_below.ensures.request_is_accepted_where_admissible site table start.state.run flow.table at need
    (c.set_routes_hold_their_points.ensures site table start.state.run number row need flow.table row_there within (set_course start.state.run.interlocking.ixl number row set.course))
    (holders_know c.points_held_with_authority_are_known.ensures site table start.state.run flow.once flow.station flow.table at whole need few ready) number (clear need within))
