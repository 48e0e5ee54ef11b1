use Rattle.std.proofs.Common.{ap, arith, sym, ◌∙◌}
use Rattle.std.proofs.lemmas.Bool.{false≢true}
use Rattle.ixl_spec.specs.Step.{clocked_detector}
use Rattle.ixl_known.proofs.Alike.{all_tell_the_same, one_tells_the_same}
use Rattle.ixl_known.proofs.ClockOnNodes.{all_settled, none_settled, one_settled}
use Rattle.ixl_known.proofs.field_clock.settle_detectors.Goals.{then-settle_detector, else-settle_detector}
use Rattle.ixl_known.proofs.field_clock.settle_detectors.Goals as goal

pub loop-detector-init : goal.loop-detector-init
loop-detector-init c = (none_settled _ _ _ _ c.requires, λ alike. all_tell_the_same _)

pub loop-detector-preserved : goal.loop-detector-preserved
loop-detector-preserved c = (
  one_settled _ _ _ _ _ _ c.detector-item.result _ c.loop-detector.invariant.0 (omega (arith, c.loop-detector-test.true, c.loop-detector.auto.detectors)) c.detector-item.is (c.settle_detector.ensures.detector ∙ ap (clocked_detector c.args.now) (sym c.detector-item.is)),
  λ alike. elim c.if-settle_detector.branch [
    | then-settle_detector w ↦ one_tells_the_same c.args.detectors.now c.loop-detector.detectors c.loop-detector.detector-index c.detector-item.result c.settle_detector.new.detector c.detector-item.is
        (c.settle_detector.ensures.alike w.if-settle_detector.true) (c.loop-detector.invariant.1 (sym w.alike-is ∙ alike))
    | else-settle_detector w ↦ absurd (false≢true (sym w.if-settle_detector.false ∙ sym w.alike-is ∙ alike))
  ],
)

pub returns-clause-detectors : goal.returns-clause-detectors
returns-clause-detectors c = all_settled _ _ _ _ c.loop-detector.detectors c.loop-detector.detector-index (omega (arith, c.loop-detector-test.false, c.loop-detector.auto.detectors)) c.loop-detector.invariant.0

pub returns-clause-alike : goal.returns-clause-alike
returns-clause-alike c = c.loop-detector.invariant.1
