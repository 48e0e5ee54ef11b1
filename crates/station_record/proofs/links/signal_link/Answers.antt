use Rattle.std.proofs.Common.{◌≡◌, ◌∙◌, ap}
use Rattle.replay.specs.ixl_spec.View.{is_signal_ready, is_signal_up}
use Rattle.replay.specs.simulator.ixl_state.State.{StateView, field_of}
use Rattle.station_record.proofs.Ready.{linked, of_field}
use Rattle.station_record.proofs.links.signal_link.Goals as goal

pub returns : goal.returns
returns c =
    let world = c.args.world.now
    in let state : StateView = record { sited = world.sited; ixl = world.run.interlocking.ixl }
    in let place = c.args.place
    in let same = c.field-field.ensures ∙ ap field_of c.interlocking.ensures
    in linked c.is_signal_up-is_up.result c.is_signal_ready.result (is_signal_up state.ixl place) (is_signal_ready state.ixl place) c.link_of.result c.link_of.ensures
    (of_field (λ ixl. c.is_signal_up-is_up.result ≡ is_signal_up ixl place) state c.field-field.result.now same c.is_signal_up-is_up.ensures)
    (of_field (λ ixl. c.is_signal_ready.result ≡ is_signal_ready ixl place) state c.field-field.result.now same c.is_signal_ready.ensures)
