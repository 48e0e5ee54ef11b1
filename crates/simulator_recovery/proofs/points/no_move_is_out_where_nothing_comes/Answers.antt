use Rattle.simulator_recovery.proofs.Words.Recovery.{InGoodRounds, IsOccupancy, TakesReportBehind, StaysBelowLimit, IsOccupancyElsewhere, IsReadyOn, ready_rounds, HasTime, IsWork, all_tried, good_rounds, AwaitsMove}
use Rattle.simulator_recovery.proofs.Words.Basics.{suc, ◌≡◌, ◌≤◌, ◌∷◌, [], ◌++◌, length, append_assoc, append-nil, ◌∙◌, refl, sym, ap, arith, subst, List, length-append}
use Rattle.simulator_recovery.proofs.Words.Links.{Each}
use Rattle.simulator_recovery.proofs.Words.Controllers.{Side}
use Rattle.simulator_recovery.proofs.Words.Interlockings.{IsHeldAt}
use Rattle.simulator_recovery.proofs.Words.Stations.{Event, Flowing, round, detector_link, point_link}
use Rattle.simulator_recovery.proofs.Lemmas.RoutesComing.HeldRounds.{fewer, point_below}
use Rattle.simulator_recovery.proofs.Lemmas.Ground.EndCalls.{each_both}
use Rattle.simulator_recovery.proofs.Lemmas.Points.MovesAnswered.{rounds_both}
use Rattle.simulator_recovery.proofs.Lemmas.Rounds.FlowsStay.{each_split}
use Rattle.simulator_recovery.proofs.Lemmas.Points.QuietCome.{elsewhere_occupancy, none_out, none_waits_unheld}
use Rattle.simulator_recovery.proofs.Lemmas.Points.QuietRounds.{each_as, elsewhere_alone, elsewhere_work}
use Rattle.simulator_recovery.proofs.Lemmas.Points.QuietBase.{AsksNothing}
use Rattle.simulator_recovery.proofs.Lemmas.Points.QuietStart.{time_long, time_longer}
use Rattle.simulator_recovery.proofs.Lemmas.Rounds.Rounds.{IsAt, rounds_reached}
use Rattle.simulator_recovery.proofs.Lemmas.Windows.WindowsAlone.{below_two}
use Rattle.simulator_recovery.proofs.points.no_move_is_out_where_nothing_comes.Goals as goal

pub returns : goal.returns
returns c = λ between later more last flowing place section reporter flow work works quiet can few own reported time many below detector_below awaits.
    let sited = flowing.state.sited
    in let site = sited.site
    in let table = sited.table
    in let link = point_link site place
    in let detector = detector_link site reporter.0
    in let next = all_tried between (round flowing)
    in let rounds = later ++ more
    in let start : Flowing = good_rounds (between ∷ rounds) flowing
    in let there = point_below site place few
    in let parts = each_split (Each (IsOccupancyElsewhere section)) more last quiet
    in let as_work = each_as (Each (IsOccupancyElsewhere section)) (Each IsWork) (λ list. each_as (IsOccupancyElsewhere section) IsWork (elsewhere_work section) list)
    in let last_works = as_work last parts.1
    in let all_works = each_both (Each IsWork) later more works (as_work more parts.0)
    in let can_rounds = fewer rounds last flowing.state.run can
    in let long_rounds : ready_rounds ≤ suc (length rounds) = time_long table section between later more flowing time
    in let at = rounds_reached c.laws_below.ensures sited (between ∷ rounds) flowing (record { same = refl; reached = flow.reached })
    in let ready = c.links_are_ready.ensures between rounds flowing link (record { flow = flow; work = work; works = all_works; time = can_rounds }) there long_rounds
    (λ before are. below_two link rounds last next before (below before are))
    in let AwaitsBehind : List (List Event) → Type 0 = λ list. AwaitsMove place (good_rounds (between ∷ list) flowing).state.run
    -- it is enough that no move is out after one of the last rounds
    in let one_free : (front rest : List (List Event)) → last ≡ front ++ rest → (AwaitsBehind (rounds ++ front) → ⊥) → ⊥ = λ front rest are none.
    let whole : (later ++ (more ++ front)) ++ rest ≡ rounds ++ last = ap (λ (list : List (List Event)). list ++ rest) (sym (append_assoc later more front)) ∙ (append_assoc rounds front rest
    ∙ ap (λ (list : List (List Event)). rounds ++ list) (sym are))
    in c.points_at_rest_stay_at_rest.ensures between later (more ++ front) rest flowing place section reporter flow work works
    (subst (Each (Each (IsOccupancyElsewhere section))) (ap (λ (list : List (List Event)). more ++ list) are ∙ sym (append_assoc more front rest)) quiet)
    (subst (λ (list : List (List Event)). HasTime (suc (length list)) flowing.state.run) (sym whole) can) few own reported
    (time_longer table section between later more front flowing time)
    (subst (λ (list : List (List Event)). StaysBelowLimit site link list next) (sym whole) below)
    (subst (λ (list : List (List Event)). StaysBelowLimit site detector list next) (sym whole) detector_below)
    (λ out. none (subst AwaitsBehind (sym (append_assoc later more front)) out)) (subst AwaitsBehind (sym whole) awaits)
    -- where a move is out, and set routes hold the point, its report comes
    in let unheld : AwaitsBehind rounds → (side : Side) → IsHeldAt table start.state.run.interlocking.ixl place side → ⊥ = λ out side held.
    let takes : TakesReportBehind site place side last start = c.moves_that_are_out_are_reported.ensures between rounds last flowing place side (record { flow = flow; work = work; works = each_both (Each IsWork) rounds last all_works last_works; time = can }) few long_rounds many below out held
    in let front = takes.front
    in let quiet_front = each_split (Each (IsOccupancyElsewhere section)) front takes.rest (subst (Each (Each (IsOccupancyElsewhere section))) takes.parts parts.1)
    in let front_works = as_work front quiet_front.0
    in let joined : rounds ++ last ≡ (rounds ++ front) ++ takes.rest = ap (λ (list : List (List Event)). rounds ++ list) takes.parts ∙ sym (append_assoc rounds front takes.rest)
    in let front_can = fewer (rounds ++ front) takes.rest flowing.state.run (subst (λ (list : List (List Event)). HasTime (suc (length list)) flowing.state.run) joined can)
    in let front_below : StaysBelowLimit site link (rounds ++ front) next = λ before are_links. below_two link (rounds ++ front) takes.rest next before
    (subst (λ (list : List (List Event)). StaysBelowLimit site link list next) joined below before are_links)
    in let same : good_rounds (between ∷ (rounds ++ front)) flowing ≡ good_rounds front start = rounds_both (between ∷ rounds) front flowing
    in one_free front takes.rest takes.parts (λ out_then. none_out c.laws_below.ensures sited flow.station flow.once flow.table place side few start at held out front
    (each_as (Each (IsOccupancyElsewhere section)) (Each AsksNothing) (λ list. each_as (IsOccupancyElsewhere section) AsksNothing (λ one is. (elsewhere_alone site table section one is).0) list) front quiet_front.0)
    (c.links_stay_up.ensures between rounds front flowing link flow work all_works front_works front_can there long_rounds front_below) ready
    (subst (λ (f : Flowing). IsAt sited f.state) same (rounds_reached c.laws_below.ensures sited (between ∷ (rounds ++ front)) flowing (record { same = refl; reached = flow.reached })))
    (subst (λ (f : Flowing). IsReadyOn site link f.state.run) same (c.links_are_ready.ensures between (rounds ++ front) flowing link (record { flow = flow; work = work; works = each_both (Each IsWork) rounds front all_works front_works; time = front_can }) there (let n = length-append rounds front in omega (arith, long_rounds, n)) front_below))
    takes.takes (subst (λ (f : Flowing). AwaitsMove place f.state.run) same out_then))
    in one_free [] last refl (λ out. c.no_move_is_unanswered.ensures between rounds [] last flowing place
    (subst (λ (list : List (List Event)). InGoodRounds between (list ++ last) flowing) (sym (append-nil rounds)) (record { flow = flow; work = work; works = each_both (Each IsWork) rounds last all_works last_works; time = can })) few long_rounds many
    (subst (λ (list : List (List Event)). StaysBelowLimit site link (list ++ last) next) (sym (append-nil rounds)) below)
    (each_as (Each (IsOccupancyElsewhere section)) (Each IsOccupancy) (λ list. each_as (IsOccupancyElsewhere section) IsOccupancy (elsewhere_occupancy section) list) last parts.1)
    (none_waits_unheld site table flow.table start.state.run.interlocking.ixl place (unheld (subst AwaitsBehind (append-nil rounds) out)))
    (subst (λ (list : List (List Event)). AwaitsBehind (list ++ last)) (sym (append-nil rounds)) awaits))
