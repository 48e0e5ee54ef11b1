use Rattle.simulator_recovery.proofs.Words.Basics.{inr, ◌++◌, arith}
use Rattle.simulator_recovery.proofs.Words.Links.{Each}
use Rattle.simulator_recovery.proofs.Words.Stations.{round, detector_link}
use Rattle.simulator_recovery.proofs.Words.Recovery.{IsWorkElsewhere, IsWork, all_tried}
use Rattle.simulator_recovery.proofs.Lemmas.RoutesComing.HeldRounds.{fewer}
use Rattle.simulator_recovery.proofs.Lemmas.Points.QuietRounds.{each_as}
use Rattle.simulator_recovery.proofs.Lemmas.Sections.RoomSince.{elsewhere_works}
use Rattle.simulator_recovery.proofs.Lemmas.Windows.WindowsAlone.{below_two}
use Rattle.simulator_recovery.proofs.points.no_move_is_out_where_nothing_came.Goals as goal

pub returns : goal.returns
returns c = λ between later more last flowing place section reporter flow work elsewhere quiet can few own reported long some many below detector_below.
    let table = flowing.state.sited.table
    in let detector = detector_link flowing.state.sited.site reporter.0
    in let next = all_tried between (round flowing)
    in let works = each_as (Each (IsWorkElsewhere table reporter.0)) (Each IsWork) (λ list. each_as (IsWorkElsewhere table reporter.0) IsWork (elsewhere_works table reporter.0) list) later elsewhere
    in let room = c.detectors_windows_have_room.ensures between later flowing section reporter flow work elsewhere
    (fewer later more flowing.state.run (fewer (later ++ more) last flowing.state.run can)) reported (omega (arith, long))
    (λ before are. below_two detector later more next before (below_two detector (later ++ more) last next before (detector_below before are)))
    in c.no_move_is_out_where_nothing_comes.ensures between later more last flowing place section reporter flow work works quiet can few own reported
    (inr (long, (some, room))) many below detector_below
