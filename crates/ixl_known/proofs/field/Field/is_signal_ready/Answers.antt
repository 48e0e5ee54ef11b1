use Rattle.std.proofs.Common.{arith, ◌∙◌}
use Rattle.std.proofs.lemmas.Bool.{le-ltb}
use Rattle.ixl_known.proofs.Known.{no_signal_ready, signal_ready}
use Rattle.ixl_known.proofs.field.Field.is_signal_ready.Goals as goal

pub returns-then-signal-len : goal.returns-then-signal-len
returns-then-signal-len c rest = c.is_ready.ensures ∙ signal_ready rest _ _ c.args.signal c.index.result.now c.self.view_is (omega (arith, c.if-signal-len.true, c.len.ensures)) c.index.ensures

pub returns-else-signal-len : goal.returns-else-signal-len
returns-else-signal-len c rest = le-ltb c.args.signal c.len.result c.if-signal-len.false ∙ no_signal_ready rest _ _ c.args.signal c.self.view_is (omega (arith, c.if-signal-len.false, c.len.ensures))
