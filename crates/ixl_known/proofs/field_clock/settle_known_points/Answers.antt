use Rattle.std.proofs.Common.{ap, arith, sym, ◌∙◌}
use Rattle.std.proofs.lemmas.Bool.{false≢true}
use Rattle.ixl_spec.specs.Step.{clocked_known_point}
use Rattle.ixl_known.proofs.Alike.{all_known_alike, one_known_alike}
use Rattle.ixl_known.proofs.ClockOnNodes.{all_settled, none_settled, one_settled}
use Rattle.ixl_known.proofs.field_clock.settle_known_points.Goals.{then-settle_known_point, else-settle_known_point}
use Rattle.ixl_known.proofs.field_clock.settle_known_points.Goals as goal

pub loop-known_point-init : goal.loop-known_point-init
loop-known_point-init c = (none_settled _ _ _ _ c.requires, λ alike. all_known_alike _)

pub loop-known_point-preserved : goal.loop-known_point-preserved
loop-known_point-preserved c = (
  one_settled _ _ _ _ _ _ c.known_point-item.result _ c.loop-known_point.invariant.0 (omega (arith, c.loop-known_point-test.true, c.loop-known_point.auto.known_points)) c.known_point-item.is (c.settle_known_point.ensures.known_point ∙ ap (clocked_known_point c.args.now) (sym c.known_point-item.is)),
  λ alike. elim c.if-settle_known_point.branch [
    | then-settle_known_point w ↦ one_known_alike c.args.known_points.now c.loop-known_point.known_points c.loop-known_point.known_point-index c.known_point-item.result c.settle_known_point.new.known_point c.known_point-item.is
        (c.settle_known_point.ensures.alike w.if-settle_known_point.true) (c.loop-known_point.invariant.1 (sym w.alike-is ∙ alike))
    | else-settle_known_point w ↦ absurd (false≢true (sym w.if-settle_known_point.false ∙ sym w.alike-is ∙ alike))
  ],
)

pub returns-clause-known_points : goal.returns-clause-known_points
returns-clause-known_points c = all_settled _ _ _ _ c.loop-known_point.known_points c.loop-known_point.known_point-index (omega (arith, c.loop-known_point-test.false, c.loop-known_point.auto.known_points)) c.loop-known_point.invariant.0

pub returns-clause-alike : goal.returns-clause-alike
returns-clause-alike c = c.loop-known_point.invariant.1
