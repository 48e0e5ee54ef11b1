use Rattle.ixl_spec.proofs.Due.{moves_where_due}
use Rattle.ixl_spec.proofs.laws.move_is_given_where_due.Goals as goal

-- src/laws.rt:49:1
pub returns : goal.returns
returns c = moves_where_due
