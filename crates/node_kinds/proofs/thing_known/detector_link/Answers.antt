use Rattle.std.proofs.Common.{◌≡◌, ◌∙◌, ◌+◌, ap, subst, length}
use Rattle.std.specs.Prelude.{slice_get, IfSome}
use Rattle.simulator_spec.specs.ixl_client.Client.{is_ready}
use Rattle.simulator_spec.specs.ixl_spec.State.{KnownDetectorState}
use Rattle.ixl_state.specs.ixl_known.Field.{FieldState}
use Rattle.node_kinds.specs.Interlockings.{link_known}
use Rattle.node_kinds.proofs.Views.{at_read}
use Rattle.node_kinds.proofs.thing_known.detector_link.Goals as goal

pub returns : goal.returns
returns c =
    let state = c.args.state.now in
    let signals = c.signals.ensures ∙ ap (λ (f : FieldState). length f.known_signals) c.field-field.ensures in
    let points = c.points.ensures ∙ ap (λ (f : FieldState). length f.known_points) c.field-field.ensures in
    let ready = at_read state.ixl.detectors c.args.place c.is_detector_ready.result (λ (detector : KnownDetectorState). is_ready detector.client.stage) c.requires
    (subst (λ (f : FieldState). IfSome (slice_get f.detectors c.args.place) (λ detector. c.is_detector_ready.result ≡ is_ready detector.client.stage)) c.field-field.ensures c.is_detector_ready.ensures) in
    c.link.ensures
    ∙ ap (λ n. link_known (n + c.points.result + c.args.place) c.is_detector_ready.result) signals
    ∙ ap (λ n. link_known (length state.ixl.known_signals + n + c.args.place) c.is_detector_ready.result) points
    ∙ ap (link_known (length state.ixl.known_signals + length state.ixl.known_points + c.args.place)) ready
