use Rattle.std.proofs.Common.{subst, not}
use Rattle.std.specs.Prelude.{◌↔◌, IsTrue}
use Rattle.route_lock.specs.Locks.{IsSet, LockState}
use Rattle.route_lock.proofs.KeptLaws.{get-at, place-below, set-is}
use Rattle.route_lock.proofs.locks.Locks.held.Goals as goal

pub returns-clause-set : goal.returns-clause-set
returns-clause-set c =
    let l = c.self.inside.table in
    let locks = c.self.inside.locks.items in
    let a = c.args.route in
    let k = c.index.result.now in
    let b = c.is_empty.result in
    let at = get-at locks a.0 k (place-below l locks c.args.self.now a c.self.view_is c.self.invariant.each c.requires) c.index.ensures in
    subst (λ (st : LockState). IsTrue (not b) ↔ IsSet st a) c.self.view_is (set-is l locks a k b at c.is_empty.ensures)
