use Rattle.std.proofs.Common.{ap, arith, sym, ◌∙◌}
use Rattle.ixl_spec.specs.Step.{clocked_known_signal}
use Rattle.ixl_known.proofs.ClockOnNodes.{all_settled, none_settled, one_settled}
use Rattle.ixl_known.proofs.field_clock.settle_known_signals.Goals as goal

pub loop-known_signal-init : goal.loop-known_signal-init
loop-known_signal-init c = none_settled _ _ _ _ c.requires

pub loop-known_signal-preserved : goal.loop-known_signal-preserved
loop-known_signal-preserved c = one_settled _ _ _ _ _ _ c.known_signal-item.result _ c.loop-known_signal.invariant (omega (arith, c.loop-known_signal-test.true, c.loop-known_signal.auto.known_signals)) c.known_signal-item.is (c.settle.ensures.known_signal ∙ ap (clocked_known_signal c.args.now) (sym c.known_signal-item.is))

pub returns : goal.returns
returns c = all_settled _ _ _ _ c.loop-known_signal.known_signals c.loop-known_signal.known_signal-index (omega (arith, c.loop-known_signal-test.false, c.loop-known_signal.auto.known_signals)) c.loop-known_signal.invariant
