use Rattle.simulator_recovery.proofs.Words.Basics.{◌∷◌}
use Rattle.simulator_recovery.proofs.Words.Links.{Each}
use Rattle.simulator_recovery.proofs.Words.Stations.{round, point_link}
use Rattle.simulator_recovery.proofs.Words.Recovery.{IsWork, all_tried, good_rounds}
use Rattle.simulator_recovery.proofs.Lemmas.RoutesComing.HeldNeeds.{needs_there}
use Rattle.simulator_recovery.proofs.Lemmas.RoutesComing.HeldRounds.{below_front, fewer, point_below, set_course}
use Rattle.simulator_recovery.proofs.Lemmas.Rounds.FlowsStay.{each_split}
use Rattle.simulator_recovery.proofs.Lemmas.Rounds.Rounds.{reached_on}
use Rattle.simulator_recovery.proofs.routes_coming.driven_points_of_a_route_are_known.Goals as goal

pub returns : goal.returns
returns c = λ between later more flowing number row need to since good long many row_there within below drives set.
    let site = flowing.state.sited.site
    in let table = flowing.state.sited.table
    in let next = all_tried between (round flowing)
    in let start = good_rounds (between ∷ later) flowing
    in let few = needs_there site table good.flow.station good.flow.table number row row_there need within
    in let held = c.set_routes_hold_their_points.ensures site table start.state.run number row need good.flow.table row_there within (set_course start.state.run.interlocking.ixl number row set.course)
    in let ready = c.links_are_ready.ensures between later flowing (point_link site need.point) (record { flow = good.flow; work = good.work; works = (each_split (Each IsWork) later more good.works).0; time = fewer later more flowing.state.run good.time })
    (point_below site need.point few) long ((below_front site row later more next below).points need within)
    in let awaits = c.driven_points_go_where_routes_want.ensures.awaits site table start.state.run need.point to since good.flow.once good.flow.station good.flow.table
    (reached_on c.laws_below.ensures (between ∷ later) flowing good.flow.reached) few ready drives
    in c.reports_make_points_of_routes_known.ensures between later more flowing number row need good long row_there within below set awaits
    (c.moves_that_are_out_are_reported.ensures between later more flowing need.point need.side good few long many
    (below.points need within) awaits held)
