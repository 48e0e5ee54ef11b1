use Rattle.std.proofs.Common.{◌∙◌}
use Rattle.ixl_known.proofs.Known.{occupied_known}
use Rattle.ixl_known.proofs.field.Field.is_occupied.Goals as goal

pub returns : goal.returns
returns c table rest same = c.contains.ensures ∙ occupied_known table rest _ _ _ c.self.view_is c.self.invariant.sections_are.occupied same c.args.section
