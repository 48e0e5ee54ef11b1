use Rattle.std.proofs.Common.{◌∙◌}
use Rattle.ixl_known.proofs.Known.{clear_known}
use Rattle.ixl_known.proofs.field.Field.is_clear.Goals as goal

pub returns : goal.returns
returns c table rest same = c.contains.ensures ∙ clear_known table rest _ _ _ c.self.view_is c.self.invariant.sections_are.clear same c.args.section
