use Rattle.std.proofs.Common.{arith, ◌∙◌}
use Rattle.ixl_known.proofs.Known.{indicated_at, none_indicated}
use Rattle.ixl_known.proofs.field.Field.indicated.Goals as goal

pub returns-then-signal-len : goal.returns-then-signal-len
returns-then-signal-len c rest = c.indicated.ensures ∙ indicated_at rest _ _ c.args.signal c.index.result.now c.self.view_is (omega (arith, c.if-signal-len.true, c.len.ensures)) c.index.ensures

pub returns-else-signal-len : goal.returns-else-signal-len
returns-else-signal-len c rest = none_indicated rest _ _ c.args.signal c.self.view_is (omega (arith, c.if-signal-len.false, c.len.ensures))
