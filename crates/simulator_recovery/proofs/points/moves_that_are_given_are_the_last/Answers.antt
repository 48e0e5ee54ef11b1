use Rattle.simulator_recovery.proofs.Words.Basics.{◌∙◌, suc, ◌≤◌, List, ◌∷◌, ◌++◌, append_assoc, length, sym, ap, arith, subst, length-append, same_Some}
use Rattle.simulator_recovery.proofs.Words.Links.{Each, LinkState}
use Rattle.simulator_recovery.proofs.Words.Stations.{Event, round, point_link, WorldState}
use Rattle.simulator_recovery.proofs.Words.Recovery.{answered_rounds, StaysBelowLimit, HasGivenOneAtMost, ready_rounds, HasTime, IsWork, all_tried, good_rounds}
use Rattle.simulator_recovery.proofs.Lemmas.RoutesComing.HeldRounds.{fewer}
use Rattle.simulator_recovery.proofs.Lemmas.Rounds.FlowsStay.{each_split}
use Rattle.simulator_recovery.proofs.Lemmas.Windows.WindowsAlone.{below_two}
use Rattle.simulator_recovery.proofs.points.moves_that_are_given_are_the_last.Goals as goal

pub returns : goal.returns
returns c = λ between later more still last flowing place good few long as_many below occupancies first again.
    let site = flowing.state.sited.site
    in let next = all_tried between (round flowing)
    in let link = point_link site place
    in let start : WorldState = (good_rounds (between ∷ later) flowing).state.run
    in let rounds = later ++ more
    in let all_rounds = rounds ++ still
    in let mid_works = (each_split (Each IsWork) all_rounds last good.works).0
    in let mid_can = fewer all_rounds last flowing.state.run good.time
    in let mid_below : StaysBelowLimit site link all_rounds next = λ before are. below_two link all_rounds last next before (below before are)
    in let ready : ready_rounds ≤ suc (length rounds) = let n = length-append later more in omega (arith, long, n)
    in let answered : answered_rounds ≤ suc (length (all_rounds ++ last)) = let n = length-append rounds still in let m = length-append all_rounds last in omega (arith, ready, n, m, as_many)
    in let on = c.links_of_points_count_on.ensures between rounds still flowing place (record { flow = good.flow; work = good.work; works = mid_works; time = mid_can }) few ready mid_below
    in let second = c.moves_that_are_out_are_new.ensures between all_rounds last flowing place good few answered as_many below again
    in let joined = append_assoc rounds still last ∙ append_assoc later more (still ++ last)
    in let all = subst (λ (rs : List (List Event)). HasGivenOneAtMost link start (good_rounds (between ∷ rs) flowing).state.run) (sym joined) (c.points_are_moved_once.ensures between later
    (more ++ (still ++ last)) flowing place (record { flow = good.flow; work = good.work; works = subst (Each (Each IsWork)) joined good.works; time = subst (λ (rs : List (List Event)). HasTime (suc (length rs)) flowing.state.run) joined good.time }) few long
    (subst (λ (rs : List (List Event)). StaysBelowLimit site link rs next) joined below) occupancies)
    in let begins = ap (λ (l : LinkState). l.given) (same_Some first.before.client all.before.client (sym first.before.client_there ∙ all.before.client_there))
    in let then_on = ap (λ (l : LinkState). l.given) (same_Some first.behind.client on.before.client (sym first.behind.client_there ∙ on.before.client_there))
    in let on_then = ap (λ (l : LinkState). l.given) (same_Some on.behind.client second.before.client (sym on.behind.client_there ∙ second.before.client_there))
    in let ends = ap (λ (l : LinkState). l.given) (same_Some second.behind.client all.behind.client (sym second.behind.client_there ∙ all.behind.client_there))
    in let one = first.more
    in let stays = on.as_many
    in let two = second.more
    in let most = all.more
    in omega (arith, begins, then_on, on_then, ends, one, stays, two, most)
