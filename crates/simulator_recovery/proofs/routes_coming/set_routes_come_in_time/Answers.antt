use Rattle.simulator_recovery.proofs.Words.Basics.{subst, ◌∷◌, ◌++◌}
use Rattle.simulator_recovery.proofs.Words.Links.{Each}
use Rattle.simulator_recovery.proofs.Words.Interlockings.{At}
use Rattle.simulator_recovery.proofs.Words.Stations.{Flowing, round, point_link}
use Rattle.simulator_recovery.proofs.Words.Recovery.{HasAspect, AreKnownWithin, IsWork, all_tried, good_rounds, ShowsThrough}
use Rattle.simulator_recovery.proofs.Lemmas.RoutesComing.HeldNeeds.{needs_there}
use Rattle.simulator_recovery.proofs.Lemmas.RoutesComing.HeldRounds.{below_front, fewer, free_or, known_or, point_below, set_course, set_front}
use Rattle.simulator_recovery.proofs.Lemmas.Ground.EndCalls.{each_both}
use Rattle.simulator_recovery.proofs.Lemmas.Points.MovesAnswered.{rounds_both}
use Rattle.simulator_recovery.proofs.Lemmas.Rounds.Rounds.{reached_on}
use Rattle.simulator_recovery.proofs.routes_coming.set_routes_come_in_time.Goals as goal

pub returns : goal.returns
returns c = λ between later more still flowing number row flow work works more_works still_works can long many row_there below set may.
    let site = flowing.state.sited.site
    in let table = flowing.state.sited.table
    in let next = all_tried between (round flowing)
    in let start = good_rounds (between ∷ later) flowing
    in let some = fewer (later ++ more) still flowing.state.run can
    in let some_below = below_front site row (later ++ more) still next below
    in let all_works = each_both (Each IsWork) later more works more_works
    in let some_set = set_front number row more still start set
    in let start_reached = reached_on c.laws_below.ensures (between ∷ later) flowing flow.reached
    in let known : AreKnownWithin row more start = λ need within.
    let few = needs_there site table flow.station flow.table number row row_there need within
    in let ready = c.links_are_ready.ensures between later flowing (point_link site need.point) (record { flow = flow; work = work; works = works; time = fewer later more flowing.state.run some }) (point_below site need.point few) long
    ((below_front site row later more next some_below).points need within)
    in let held = c.set_routes_hold_their_points.ensures site table start.state.run number row need flow.table row_there within (set_course start.state.run.interlocking.ixl number row set.course)
    in known_or need more start (free_or c.laws_below.ensures site table flow.station flow.once start.state.run start_reached number row need few row_there within ready set.course
    (λ one other route point side another. c.points_of_proceeding_routes_are_known.ensures site table start.state.run one other route point side another flow.table start_reached) held
    (λ route is. c.no_move_waits_that_is_due.ensures site table start.state.run number row route need start_reached is within) (may need within))
    (λ awaits. c.reports_make_points_of_routes_known.ensures between later more flowing number row need (record { flow = flow; work = work; works = all_works; time = some }) long row_there within
    some_below some_set awaits
    (c.moves_that_are_out_are_reported.ensures between later more flowing need.point need.side (record { flow = flow; work = work; works = all_works; time = some }) few long many
    (some_below.points need within) awaits held))
    in record {
      points = known;
      proceeds = subst (λ (f : Flowing). At f.state.run.interlocking.ixl.routes number HasAspect) (rounds_both later more next)
          (c.routes_come.ensures.proceeds between later more still flowing number row flow work works more_works still_works can long row_there below set known);
      shows = subst (ShowsThrough row.entry row.aspect still) (rounds_both later more next)
          (c.routes_come.ensures.shows between later more still flowing number row flow work works more_works still_works can long row_there below set known);
    }
