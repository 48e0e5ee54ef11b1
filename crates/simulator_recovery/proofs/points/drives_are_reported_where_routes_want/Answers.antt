use Rattle.simulator_recovery.proofs.Words.Basics.{◌∷◌, subst}
use Rattle.simulator_recovery.proofs.Words.Links.{Each}
use Rattle.simulator_recovery.proofs.Words.Controllers.{Side}
use Rattle.simulator_recovery.proofs.Words.Stations.{round, point_link}
use Rattle.simulator_recovery.proofs.Words.Recovery.{ReportComesBehind, IsWork, all_tried, good_rounds}
use Rattle.simulator_recovery.proofs.Lemmas.RoutesComing.HeldRounds.{fewer, point_below}
use Rattle.simulator_recovery.proofs.Lemmas.Rounds.FlowsStay.{each_split}
use Rattle.simulator_recovery.proofs.Lemmas.Windows.WindowsAlone.{below_two}
use Rattle.simulator_recovery.proofs.points.drives_are_reported_where_routes_want.Goals as goal

pub returns : goal.returns
returns c = λ between later more flowing place side to since good few long many below driving held.
    let site = flowing.state.sited.site
    in let start = good_rounds (between ∷ later) flowing
    in let ready = c.links_are_ready.ensures between later flowing (point_link site place) (record { flow = good.flow; work = good.work; works = (each_split (Each IsWork) later more good.works).0; time = fewer later more flowing.state.run good.time }) (point_below site place few) long
    (λ before are. below_two (point_link site place) later more (all_tried between (round flowing)) before (below before are))
    in let same = c.driven_points_go_where_routes_want.ensures.side site flowing.state.sited.table start.state.run place side to since good.flow.once good.flow.station good.flow.table (c.good_rounds_are_events.ensures (between ∷ later) flowing good.flow.reached) few ready held driving
    in subst (λ (s : Side). ReportComesBehind site place s more start) same
    (c.reports_of_drives_come_back.ensures between later more flowing place to since good few long many below driving)
