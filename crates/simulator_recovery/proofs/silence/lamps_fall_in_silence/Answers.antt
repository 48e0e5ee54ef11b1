use Rattle.simulator_recovery.proofs.Words.Basics.{◌≡◌, ℕ, refl, subst}
use Rattle.simulator_recovery.proofs.Words.Links.{reading_of, seen}
use Rattle.simulator_recovery.proofs.Words.Controllers.{Stop, aspect_shown}
use Rattle.simulator_recovery.proofs.Words.Stations.{world_at, names_at, after_all}
use Rattle.simulator_recovery.proofs.Lemmas.Silence.Shown.{none_taken, shows_stop}
use Rattle.simulator_recovery.proofs.silence.lamps_fall_in_silence.Goals as goal

pub returns : goal.returns
returns c = λ site table outset events place made signal once station is lies can takes late there.
    let world = after_all site table events (world_at site table outset)
    in let represented = (c.laws_below.ensures.every_world_is_safe site table outset events once station is lies can).1
    in let end = c.laws_below.ensures.ends_are_those_of_the_nodes_signal site world represented.network represented.linked.whole represented.linked.are place signal there
    in let spent = c.connections_end_in_silence.ensures.signal site table outset events place made signal once station lies can takes late there
    in let none = none_taken c.laws_below.ensures
    (names_at site place) (seen place represented.network) signal (represented.linked.lawful.timely.each place end.0) (represented.linked.lawful.ordered place end.0) end.1 spent
    in subst (λ (clock : ℕ). aspect_shown signal.host.object.lamp (reading_of clock) ≡ Stop) end.1.clock_is
    (shows_stop c.signal_shows_what_was_told.ensures.shown _ (represented.signals.each place signal there).told refl none)
