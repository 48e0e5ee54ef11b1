use Rattle.simulator_recovery.proofs.Words.Basics.{suc, ◌≤◌, ◌∷◌, ◌++◌, length, refl, sym, arith, subst, length-append}
use Rattle.simulator_recovery.proofs.Words.Links.{Each}
use Rattle.simulator_recovery.proofs.Words.Stations.{Flowing, round, point_link}
use Rattle.simulator_recovery.proofs.Words.Recovery.{IsOccupancy, NoneWaitsFor, answered_rounds, ready_rounds, IsWork, all_tried, good_rounds}
use Rattle.simulator_recovery.proofs.Lemmas.Points.AnsweredRounds.{none_is_new, none_waits, rounds_same, stays_unmoved, unmoved_first, Unmoved}
use Rattle.simulator_recovery.proofs.Lemmas.RoutesComing.HeldRounds.{fewer, point_below}
use Rattle.simulator_recovery.proofs.Lemmas.Points.MovesAnswered.{rounds_both}
use Rattle.simulator_recovery.proofs.Lemmas.Rounds.FlowsStay.{each_split}
use Rattle.simulator_recovery.proofs.Lemmas.Windows.WindowsAlone.{below_two}
use Rattle.simulator_recovery.proofs.points.no_move_is_unanswered.Goals as goal

pub returns : goal.returns
returns c = λ between later more last flowing place good few long many below occupancies none awaits.
    let sited = flowing.state.sited
    in let rounds = later ++ more
    in let start : Flowing = good_rounds (between ∷ rounds) flowing
    in let end : Flowing = good_rounds (between ∷ (rounds ++ last)) flowing
    in let link = point_link sited.site place
    in let quiet = each_split (Each IsOccupancy) more last occupancies
    in let long_so : ready_rounds ≤ suc (length rounds) = let n = length-append later more in omega (arith, long, n)
    in let now_long : ready_rounds ≤ suc (length (rounds ++ last)) = let n = length-append rounds last in omega (arith, long_so, n)
    in let answered_so : answered_rounds ≤ suc (length (rounds ++ last)) = let n = length-append rounds last in omega (arith, long_so, n, many)
    in let was_reached = c.good_rounds_are_events.ensures (between ∷ rounds) flowing good.flow.reached
    in let is_reached = c.good_rounds_are_events.ensures (between ∷ (rounds ++ last)) flowing good.flow.reached
    in let was_ready = c.links_are_ready.ensures between rounds flowing link (record { flow = good.flow; work = good.work; works = (each_split (Each IsWork) rounds last good.works).0; time = fewer rounds last flowing.state.run good.time }) (point_below sited.site place few) long_so
    (λ before are. below_two link rounds last (all_tried between (round flowing)) before (below before are))
    in let ready = c.links_are_ready.ensures between (rounds ++ last) flowing link good (point_below sited.site place few) now_long below
    in let since = c.moves_that_are_out_are_new.ensures between rounds last flowing place good few answered_so many below awaits
    in let none_then = subst (λ (f : Flowing). NoneWaitsFor sited.table f.state.run.interlocking.ixl place) (sym (rounds_both (between ∷ later) more flowing))
    (none_waits sited place more (good_rounds (between ∷ later) flowing) quiet.0 (rounds_same sited (between ∷ later) flowing refl) none)
    in let rests = stays_unmoved sited place was_ready.up.client.given last start quiet.1 (rounds_same sited (between ∷ rounds) flowing refl)
    (unmoved_first c.laws_below.ensures sited.site sited.table good.flow.once good.flow.station good.flow.table place few start.state.run was_reached was_ready none_then)
    in none_is_new c.laws_below.ensures sited.site sited.table good.flow.once good.flow.station good.flow.table place few start.state.run end.state.run was_reached is_reached was_ready ready
    (subst (λ (f : Flowing). Unmoved sited.table place was_ready.up.client.given f.state.run.interlocking.ixl) (sym (rounds_both (between ∷ rounds) last flowing)) rests).still since awaits
