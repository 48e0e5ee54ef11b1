use Rattle.route_lock.proofs.KeptLaws.{each-is}
use Rattle.route_lock.proofs.locks.Locks.table.Goals as goal

pub returns-clause-each : goal.returns-clause-each
returns-clause-each c = each-is c.self.inside.table c.self.inside.locks.items c.args.self.now c.self.view_is c.self.invariant.each
