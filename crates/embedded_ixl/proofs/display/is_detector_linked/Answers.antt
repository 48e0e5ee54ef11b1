use Rattle.std.proofs.Common.{◌≡◌, ◌∙◌, ◌<◌, ◌≤◌, ap, subst, length, sym}
use Rattle.std.specs.Prelude.{slice_get, IfSome}
use Rattle.ixl_state.specs.ixl_client.Client.{is_ready}
use Rattle.ixl_state.specs.ixl_spec.State.{KnownDetectorState}
use Rattle.ixl_state.specs.ixl_known.Field.{FieldState}
use Rattle.embedded_ixl.proofs.Views.{at_none, at_read, not_less}
use Rattle.embedded_ixl.proofs.display.is_detector_linked.Goals as goal

pub returns-then-place-detectors : goal.returns-then-place-detectors
returns-then-place-detectors c =
    let state = c.args.state.now in
    let count = c.detectors.ensures ∙ ap (λ (f : FieldState). length f.detectors) c.field-field.ensures in
    at_read state.ixl.detectors c.args.place c.is_detector_ready.result (λ (detector : KnownDetectorState). is_ready detector.client.stage) (subst (λ n. c.args.place < n) count c.if-place-detectors.true)
    (subst (λ (f : FieldState). IfSome (slice_get f.detectors c.args.place) (λ detector. c.is_detector_ready.result ≡ is_ready detector.client.stage)) c.field-field.ensures c.is_detector_ready.ensures)

pub returns-else-place-detectors : goal.returns-else-place-detectors
returns-else-place-detectors c =
    let state = c.args.state.now in
    let count = c.detectors.ensures ∙ ap (λ (f : FieldState). length f.detectors) c.field-field.ensures in
    not_less c.args.place c.detectors.result c.if-place-detectors.false
    ∙ sym (at_none state.ixl.detectors c.args.place (λ (detector : KnownDetectorState). is_ready detector.client.stage) (subst (λ n. n ≤ c.args.place) count c.if-place-detectors.false))
