use Rattle.std.proofs.Common.{◌≡◌, ◌∙◌, ap, arith}
use Rattle.station_record.specs.replay.ixl_spec.State.{KnownDetectorState}
use Rattle.station_record.specs.replay.ixl_spec.Table.{at}
use Rattle.station_record.specs.replay.simulator_spec.ixl_client.Client.{is_ready}
use Rattle.station_record.specs.replay.simulator.ixl_state.State.{StateView, field_of}
use Rattle.station_record.specs.replay.simulator.ixl_state.ixl_known.Field.{FieldState}
use Rattle.station_run.proofs.Seen.{at_read}
use Rattle.station_run.proofs.pictured_world.is_detector_ready.Goals as goal

pub returns-then-place-detectors : goal.returns-then-place-detectors
returns-then-place-detectors c =
    let world = c.args.world.now
    in let state : StateView = record { sited = world.sited; ixl = world.run.interlocking.ixl }
    in let field : FieldState = c.field-field.result.now
    in let same : field ≡ field_of state = c.field-field.ensures ∙ ap field_of c.interlocking.ensures
    in at_read field.detectors c.args.place c.is_detector_ready.result (λ (detector : KnownDetectorState). is_ready detector.client.stage) (omega (arith, c.if-place-detectors.true, c.detectors.ensures)) c.is_detector_ready.ensures
    ∙ ap (λ (f : FieldState). at f.detectors c.args.place (λ (detector : KnownDetectorState). is_ready detector.client.stage)) same
