use Rattle.std.proofs.Common.{◌≡◌, ◌∙◌, ap}
use Rattle.replay.specs.ixl_spec.View.{is_detector_up}
use Rattle.replay.specs.simulator.ixl_state.State.{StateView, field_of}
use Rattle.station_record.specs.Links.{is_detector_ready}
use Rattle.station_record.proofs.Ready.{linked, of_field}
use Rattle.station_record.proofs.links.detector_link.Goals as goal

pub returns : goal.returns
returns c =
    let world = c.args.world.now
    in let state : StateView = record { sited = world.sited; ixl = world.run.interlocking.ixl }
    in let place = c.args.place
    in linked c.is_detector_up-is_up.result c.detector_is_ready.result (is_detector_up state.ixl place) (is_detector_ready state.ixl place) c.link_of.result c.link_of.ensures
    (of_field (λ ixl. c.is_detector_up-is_up.result ≡ is_detector_up ixl place) state c.field.result.now (c.field.ensures ∙ ap field_of c.interlocking.ensures) c.is_detector_up-is_up.ensures)
    c.detector_is_ready.ensures
