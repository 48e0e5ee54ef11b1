use Rattle.ixl_known.proofs.Known.{clear_known}
use Rattle.ixl_known.proofs.field.Field.clear.Goals as goal

pub returns : goal.returns
returns c table rest same = clear_known table rest _ _ _ c.self.view_is c.self.invariant.sections_are.clear same
