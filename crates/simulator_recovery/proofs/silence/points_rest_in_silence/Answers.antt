use Rattle.simulator_recovery.proofs.Words.Basics.{◌≡◌, ℕ, None, refl, subst}
use Rattle.simulator_recovery.proofs.Words.Links.{reading_of, seen}
use Rattle.simulator_recovery.proofs.Words.Controllers.{drives}
use Rattle.simulator_recovery.proofs.Words.Stations.{world_at, names_at, point_link, after_all}
use Rattle.simulator_recovery.proofs.Lemmas.Silence.Shown.{is_undriven, none_taken}
use Rattle.simulator_recovery.proofs.silence.points_rest_in_silence.Goals as goal

pub returns : goal.returns
returns c = λ site table outset events place made point once station is lies can takes late there.
    let world = after_all site table events (world_at site table outset)
    in let represented = (c.laws_below.ensures.every_world_is_safe site table outset events once station is lies can).1
    in let end = c.laws_below.ensures.ends_are_those_of_the_nodes_point site world represented.network represented.linked.whole represented.linked.are place point there
    in let spent = c.connections_end_in_silence.ensures.point site table outset events place made point once station lies can takes late there
    in let none = none_taken c.laws_below.ensures
    (names_at site (point_link site place)) (seen (point_link site place) represented.network) point (represented.linked.lawful.timely.each (point_link site place) end.0)
    (represented.linked.lawful.ordered (point_link site place) end.0) end.1 spent
    in subst (λ (clock : ℕ). drives (reading_of clock) point.host.object ≡ None) end.1.clock_is
    (is_undriven c.point_reports_its_moves.ensures.driven _ (represented.points.each place point there).reported refl none)
