use Rattle.simulator_recovery.proofs.Words.Basics.{suc, ◌≤◌, ◌∷◌, ◌++◌, length, refl, sym, subst, ℕ}
use Rattle.simulator_recovery.proofs.Words.Links.{Each}
use Rattle.simulator_recovery.proofs.Words.Stations.{Flowing, round, detector_link, point_link, IsWhole}
use Rattle.simulator_recovery.proofs.Words.Recovery.{IsUpOn, StaysBelowLimit, IsPointReady, IsOccupancyElsewhere, ready_rounds, IsWork, all_tried, good_rounds, LeavesSection, AwaitsMove}
use Rattle.simulator_recovery.proofs.Lemmas.RoutesComing.HeldRounds.{fewer, point_below}
use Rattle.simulator_recovery.proofs.Lemmas.Ground.EndCalls.{each_both}
use Rattle.simulator_recovery.proofs.Lemmas.Points.MovesAnswered.{rounds_both}
use Rattle.simulator_recovery.proofs.Lemmas.Rounds.FlowsStay.{each_split}
use Rattle.simulator_recovery.proofs.Lemmas.Points.QuietBase.{KnownToHolders}
use Rattle.simulator_recovery.proofs.Lemmas.Points.QuietRounds.{each_as, elsewhere_alone, elsewhere_work, rests_later}
use Rattle.simulator_recovery.proofs.Lemmas.Points.QuietStart.{starts_in_time, time_long}
use Rattle.simulator_recovery.proofs.Lemmas.Rounds.Rounds.{reached_on, rounds_reached}
use Rattle.simulator_recovery.proofs.Lemmas.Sections.SectionsInTime.{below_links}
use Rattle.simulator_recovery.proofs.Lemmas.RoutesComing.UnheldAccepted.{ready_point}
use Rattle.simulator_recovery.proofs.Lemmas.Windows.WindowsAlone.{below_two}
use Rattle.simulator_recovery.proofs.points.points_at_rest_stay_at_rest.Goals as goal

pub returns : goal.returns
returns c = λ between later more last flowing place section reporter flow work works quiet can few own reported time below detector_below none_out.
    let reach = c.laws_below.ensures
    in let sited = flowing.state.sited
    in let site = sited.site
    in let table = sited.table
    in let link = point_link site place
    in let detector = detector_link site reporter.0
    in let next = all_tried between (round flowing)
    in let rounds = later ++ more
    in let start = good_rounds (between ∷ rounds) flowing
    in let parts = each_split (Each (IsOccupancyElsewhere section)) more last quiet
    in let as_work = each_as (Each (IsOccupancyElsewhere section)) (Each IsWork) (λ list. each_as (IsOccupancyElsewhere section) IsWork (elsewhere_work section) list)
    in let leaves = each_as (Each (IsOccupancyElsewhere section)) (Each (LeavesSection site table section))
    (λ list. each_as (IsOccupancyElsewhere section) (LeavesSection site table section) (λ one is. (elsewhere_alone site table section one is).1) list) more parts.0
    in let more_works = as_work more parts.0
    in let last_works = as_work last parts.1
    in let all_works = each_both (Each IsWork) later more works more_works
    in let can_rounds = fewer rounds last flowing.state.run can
    in let long_rounds : ready_rounds ≤ suc (length rounds) = time_long table section between later more flowing time
    in let there = point_below site place few
    in let detector_there = below_links c.laws_below.ensures between flowing section reporter flow.once flow.station flow.table flow.reached work reported
    in let below_rounds : StaysBelowLimit site link rounds next = λ before are. below_two link rounds last next before (below before are)
    in let detector_rounds : StaysBelowLimit site detector rounds next = λ before are. below_two detector rounds last next before (detector_below before are)
    in let ready = c.links_are_ready.ensures between rounds flowing link (record { flow = flow; work = work; works = all_works; time = can_rounds }) there long_rounds below_rounds
    in let detector_ready = c.links_are_ready.ensures between rounds flowing detector (record { flow = flow; work = work; works = all_works; time = can_rounds }) detector_there long_rounds detector_rounds
    in let at = reached_on reach (between ∷ rounds) flowing flow.reached
    in let whole : IsWhole site start.state.run = subst (IsWhole site) (sym at.after) (c.laws_below.ensures.every_world_is_safe site table at.outset at.events flow.once flow.station flow.table at.lies at.can).1.linked.whole
    in let know : KnownToHolders table start.state.run place = λ number row own own_there within same (route, route_there, holds).
    c.points_held_with_authority_are_known.ensures site table start.state.run number row route own flow.once flow.station flow.table at (own_there, route_there) holds within
    (subst (λ (point : ℕ). IsUpOn (point_link site point) start.state.run) (sym same) ready.up)
    (subst (IsPointReady start.state.run.interlocking.ixl) (sym same) (ready_point site start.state.run whole place few ready))
    in λ awaits. rests_later c.laws_below.ensures sited flow.station flow.once flow.table place few section own reporter reported start (rounds_reached reach sited (between ∷ rounds) flowing (record { same = refl; reached = flow.reached }))
    (starts_in_time c.laws_below.ensures between flowing section reporter flow.once flow.station flow.table flow.reached work reported later more all_works can_rounds time detector_rounds leaves) know ready detector_ready last parts.1
    none_out
    (c.links_stay_up.ensures between rounds last flowing link flow work all_works last_works can there long_rounds below)
    (c.links_stay_up.ensures between rounds last flowing detector flow work all_works last_works can detector_there long_rounds detector_below)
    (subst (λ (f : Flowing). AwaitsMove place f.state.run) (rounds_both (between ∷ rounds) last flowing) awaits)
