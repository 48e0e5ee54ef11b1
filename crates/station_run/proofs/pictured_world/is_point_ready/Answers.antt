use Rattle.std.proofs.Common.{◌≡◌, ◌∙◌, ap}
use Rattle.station_record.specs.replay.ixl_spec.View.{is_point_ready}
use Rattle.station_record.specs.replay.simulator.ixl_state.State.{StateView, field_of}
use Rattle.station_run.proofs.Seen.{of_nodes}
use Rattle.station_run.proofs.pictured_world.is_point_ready.Goals as goal

pub returns : goal.returns
returns c =
    let world = c.args.world.now
    in let state : StateView = record { sited = world.sited; ixl = world.run.interlocking.ixl }
    in of_nodes (λ ixl. c.is_point_ready.result ≡ is_point_ready ixl c.args.place) state c.field.result.now (c.field.ensures ∙ ap field_of c.interlocking.ensures) c.is_point_ready.ensures
