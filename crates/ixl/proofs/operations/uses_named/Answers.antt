use Rattle.std.proofs.Common.{◌∙◌, ap, sym}
use Rattle.ixl_state.specs.ixl_spec.Operations.{uses_named}
use Rattle.ixl.proofs.operations.uses_named.Goals as goal

pub returns-in-One : goal.returns-in-One
returns-in-One c row route kept = c.uses.ensures row route kept ∙ ap (uses_named c.args.number row route) (sym c.in-One.is)

pub returns-in-BothSides : goal.returns-in-BothSides
returns-in-BothSides c row route kept = c.holds.ensures row route kept ∙ ap (uses_named c.args.number row route) (sym c.in-BothSides.is)
