use Rattle.ixl.proofs.Views.{either_first, either_then}
use Rattle.ixl.proofs.operations.is_in_use.Goals as goal

pub returns-then-uses_named : goal.returns-then-uses_named
returns-then-uses_named c row route kept = either_first c.uses_named.result _ _ (c.uses_named.ensures row route kept) c.if-uses_named.true

pub returns-else-uses_named : goal.returns-else-uses_named
returns-else-uses_named c row route kept =
    either_then c.uses_named.result c.awaits_in_named.result _ _ (c.uses_named.ensures row route kept) (c.awaits_in_named.ensures row route kept) c.if-uses_named.false
