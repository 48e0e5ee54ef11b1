use Rattle.std.proofs.Common.{refl, arith}
use Rattle.ixl_spec.specs.State.{IxlState, KnownSignalState}
use Rattle.ixl_spec.specs.Step.{known_signal_ticking}
use Rattle.ixl_known.specs.Nodes.{known_signal_ticked}
use Rattle.ixl_known.specs.inside.Turns.{with_known_signals}
use Rattle.ixl_known.proofs.NodeEffects.{known_signal_ticks}
use Rattle.ixl_known.proofs.NodeByNode.{none_turned, one_turned_at}
use Rattle.ixl_known.proofs.field_clock.tick_known_signals.Goals as goal

pub loop-signal-init : goal.loop-signal-init
loop-signal-init c = none_turned (λ (ixl : IxlState). ixl.known_signals) with_known_signals (λ (one : KnownSignalState). one.client) c.args.now 2 (known_signal_ticking c.args.now) _ _ (λ ixl. refl) c.requires.clock

pub loop-signal-preserved : goal.loop-signal-preserved
loop-signal-preserved c = one_turned_at (λ (ixl : IxlState). ixl.known_signals) with_known_signals (λ (one : KnownSignalState). one.client) c.args.now 2 (known_signal_ticking c.args.now) (known_signal_ticked c.args.now) (λ list ixl. refl) (λ list other ixl. refl) c.loop-signal.signal c.args.known_signals.now c.args.outbox.now c.loop-signal.known_signals c.loop-signal.outbox c.index-known_signals-signal.result c.tick.new.self c.tick.new.outbox
    (λ ixl is node box_is. known_signal_ticks c.args.now c.loop-signal.signal ixl _ _ _ _ is node box_is) c.loop-signal.invariant (omega (arith, c.loop-signal-test.true, c.loop-signal.auto.known_signals)) c.index-known_signals-signal.is c.tick.ensures
