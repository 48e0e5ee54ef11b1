use Rattle.ixl_table.proofs.LockLaws.{set-is}
use Rattle.ixl_table.proofs.laws.set_routes_lock_sections.Goals as goal

pub returns : goal.returns
returns c sited routes locks are left number row route is = set-is sited routes locks are number row route is left
