use Rattle.std.proofs.Common.{◌∙◌, sym}
use Rattle.ixl.proofs.Causes.{thing_missing, thing_there}
use Rattle.ixl.proofs.operation_refusals.open_refusal.Goals as goal

pub returns-then-has_named : goal.returns-then-has_named
returns-then-has_named c = thing_there _ _ (sym c.has_named.ensures ∙ c.if-has_named.true)

pub returns-else-has_named : goal.returns-else-has_named
returns-else-has_named c = thing_missing _ _ (sym c.has_named.ensures ∙ c.if-has_named.false)
