use Rattle.simulator_recovery.proofs.Words.Basics.{[], ◌∷◌, ◌++◌, refl, arith}
use Rattle.simulator_recovery.proofs.Words.Links.{Each}
use Rattle.simulator_recovery.proofs.Words.Stations.{round, detector_link}
use Rattle.simulator_recovery.proofs.Words.Recovery.{IsWorkElsewhere, IsWork, all_tried, LeavesSection}
use Rattle.simulator_recovery.proofs.Lemmas.RoutesComing.HeldRounds.{fewer}
use Rattle.simulator_recovery.proofs.Lemmas.Rounds.FlowsStay.{each_split}
use Rattle.simulator_recovery.proofs.Lemmas.Points.QuietRounds.{each_as}
use Rattle.simulator_recovery.proofs.Lemmas.Sections.RoomSince.{elsewhere_leaves, elsewhere_works}
use Rattle.simulator_recovery.proofs.Lemmas.Rounds.Rounds.{rounds_reached}
use Rattle.simulator_recovery.proofs.Lemmas.Windows.WindowsAlone.{below_two}
use Rattle.simulator_recovery.proofs.sections.sections_are_reported_where_nothing_came.Goals as goal

pub returns : goal.returns
returns c = λ between later last flowing section reporter flow work elsewhere can reported long below.
    let sited = flowing.state.sited
    in let site = sited.site
    in let table = sited.table
    in let detector = detector_link site reporter.0
    in let next = all_tried between (round flowing)
    in let rounds = later ++ last ∷ []
    in let parts = each_split (Each (IsWorkElsewhere table reporter.0)) later (last ∷ []) elsewhere
    in let works = each_as (Each (IsWorkElsewhere table reporter.0)) (Each IsWork) (λ list. each_as (IsWorkElsewhere table reporter.0) IsWork (elsewhere_works table reporter.0) list) rounds elsewhere
    in let room = c.detectors_windows_have_room.ensures between later flowing section reporter flow work parts.0 (fewer later (last ∷ []) flowing.state.run can) reported
    (omega (arith, long)) (λ before are. below_two detector later (last ∷ []) next before (below before are))
    in let leaves = each_as (IsWorkElsewhere table reporter.0) (LeavesSection site table section) (elsewhere_leaves site table section reporter reported) last parts.1.0
    in let known = c.sections_are_reported_with_room.ensures between later last flowing section reporter (record { flow = flow; work = work; works = works; time = can }) reported long below room leaves
    in let at = rounds_reached c.laws_below.ensures sited (between ∷ rounds) flowing (record { same = refl; reached = flow.reached })
    in c.known_sections_are_as_in_the_field.ensures site table _ section flow.station flow.table at.reached known
