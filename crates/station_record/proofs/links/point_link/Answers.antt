use Rattle.std.proofs.Common.{◌≡◌, ◌∙◌, ap}
use Rattle.replay.specs.ixl_spec.View.{is_point_ready, is_point_up}
use Rattle.replay.specs.simulator.ixl_state.State.{StateView, field_of}
use Rattle.station_record.proofs.Ready.{linked, of_field}
use Rattle.station_record.proofs.links.point_link.Goals as goal

pub returns : goal.returns
returns c =
    let world = c.args.world.now
    in let state : StateView = record { sited = world.sited; ixl = world.run.interlocking.ixl }
    in let place = c.args.place
    in let same = c.field-field.ensures ∙ ap field_of c.interlocking.ensures
    in linked c.is_point_up-is_up.result c.is_point_ready.result (is_point_up state.ixl place) (is_point_ready state.ixl place) c.link_of.result c.link_of.ensures
    (of_field (λ ixl. c.is_point_up-is_up.result ≡ is_point_up ixl place) state c.field-field.result.now same c.is_point_up-is_up.ensures)
    (of_field (λ ixl. c.is_point_ready.result ≡ is_point_ready ixl place) state c.field-field.result.now same c.is_point_ready.ensures)
