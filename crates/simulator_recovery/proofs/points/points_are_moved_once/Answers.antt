use Rattle.simulator_recovery.proofs.Words.Basics.{suc, ◌≤◌, ◌≡◌, ◌∷◌, ◌++◌, length, refl, sym, arith, subst, length-append}
use Rattle.simulator_recovery.proofs.Words.Links.{Each}
use Rattle.simulator_recovery.proofs.Words.Stations.{Flowing, round, point_link, WorldState}
use Rattle.simulator_recovery.proofs.Words.Recovery.{ready_rounds, IsWork, all_tried, good_rounds}
use Rattle.simulator_recovery.proofs.Lemmas.Points.AnsweredRounds.{rounds_same}
use Rattle.simulator_recovery.proofs.Lemmas.RoutesComing.HeldRounds.{fewer, point_below}
use Rattle.simulator_recovery.proofs.Lemmas.Points.MovesAnswered.{rounds_both}
use Rattle.simulator_recovery.proofs.Lemmas.Rounds.FlowsStay.{each_split}
use Rattle.simulator_recovery.proofs.Lemmas.Points.OnceMoved.{gave_two, once_first, once_later, stays_once, IsMovedOnce}
use Rattle.simulator_recovery.proofs.Lemmas.Windows.WindowsAlone.{below_two}
use Rattle.simulator_recovery.proofs.points.points_are_moved_once.Goals as goal

pub returns : goal.returns
returns c = λ between later more flowing place good few long below occupancies.
    let sited = flowing.state.sited
    in let start : Flowing = good_rounds (between ∷ later) flowing
    in let end : Flowing = good_rounds (between ∷ (later ++ more)) flowing
    in let link = point_link sited.site place
    in let now_long : ready_rounds ≤ suc (length (later ++ more)) = let n = length-append later more in omega (arith, long, n)
    in let was_reached = c.good_rounds_are_events.ensures (between ∷ later) flowing good.flow.reached
    in let is_reached = c.good_rounds_are_events.ensures (between ∷ (later ++ more)) flowing good.flow.reached
    in let was_ready = c.links_are_ready.ensures between later flowing link (record { flow = good.flow; work = good.work; works = (each_split (Each IsWork) later more good.works).0; time = fewer later more flowing.state.run good.time }) (point_below sited.site place few) long
    (λ before are. below_two link later more (all_tried between (round flowing)) before (below before are))
    in let ready = c.links_are_ready.ensures between (later ++ more) flowing link good (point_below sited.site place few) now_long below
    in let many = subst (λ (w : WorldState). length w.interlocking.ixl.routes ≡ length sited.table.rows) (sym was_reached.after)
    (c.laws_below.ensures.every_world_is_safe sited.site sited.table was_reached.outset was_reached.events good.flow.once good.flow.station good.flow.table was_reached.lies was_reached.can).1.station.routes
    in let items = was_ready.up.client.given
    in let stays = stays_once sited place items (gave_two c.laws_below.ensures sited.site sited.table good.flow.once good.flow.station good.flow.table place few start.state.run was_reached was_ready) more start occupancies
    (rounds_same sited (between ∷ later) flowing refl)
    (once_first c.laws_below.ensures sited.site sited.table good.flow.once good.flow.station good.flow.table place few start.state.run was_reached was_ready many)
    in record {
      before = was_ready.up;
      behind = ready.up;
      more = once_later c.laws_below.ensures sited.site sited.table good.flow.once good.flow.station good.flow.table place few end.state.run is_reached ready items
          (subst (λ (f : Flowing). IsMovedOnce sited.table place items f.state.run.interlocking.ixl) (sym (rounds_both (between ∷ later) more flowing)) stays);
    }
