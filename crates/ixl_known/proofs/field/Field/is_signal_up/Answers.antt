use Rattle.std.proofs.Common.{arith, ◌∙◌}
use Rattle.std.proofs.lemmas.Bool.{le-ltb}
use Rattle.ixl_spec.specs.rasta_core.State.{is_up}
use Rattle.ixl_spec.specs.State.{KnownSignalState}
use Rattle.ixl_known.specs.Field.{FieldState}
use Rattle.ixl_known.proofs.Known.{looked_at, looked_past}
use Rattle.ixl_known.proofs.field.Field.is_signal_up.Goals as goal

pub returns-then-signal-len : goal.returns-then-signal-len
returns-then-signal-len c rest = c.is_up.ensures ∙ looked_at (λ (f : FieldState). f.known_signals) (λ (o : KnownSignalState). is_up o.client.link.phase) _ _ c.args.signal c.index.result.now c.self.view_is (omega (arith, c.if-signal-len.true, c.len.ensures)) c.index.ensures

pub returns-else-signal-len : goal.returns-else-signal-len
returns-else-signal-len c rest = le-ltb c.args.signal c.len.result c.if-signal-len.false ∙ looked_past (λ (f : FieldState). f.known_signals) (λ (o : KnownSignalState). is_up o.client.link.phase) _ _ c.args.signal c.self.view_is (omega (arith, c.if-signal-len.false, c.len.ensures))
