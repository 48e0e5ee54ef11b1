use Rattle.std.proofs.Common.{subst, sym, ap, arith, not, length}
use Rattle.std.specs.Prelude.{◌↔◌, IsTrue}
use Rattle.control_table.specs.layout.declared.ids.RouteId.{RouteId}
use Rattle.route_lock.specs.Locks.{Blocks, IsSet, LockState}
use Rattle.route_lock.proofs.KeptLaws.{clear-is}
use Rattle.route_lock.proofs.locks.Locks.clear_for.Goals as goal

pub returns : goal.returns
returns c =
    let l = c.self.inside.table in
    let locks = c.self.inside.locks.items in
    let b = c.args.route in
    let m = c.masks.result in
    let same = ap (λ (st : LockState). length st.table.routes) c.self.view_is in
    let lt = c.requires.there in
    let free = subst (λ (st : LockState). IsSet st b → ⊥) (sym c.self.view_is) c.requires.free in
    subst (λ (st : LockState). IsTrue (not c.blocks-2.result) ↔ ((a : RouteId) → Blocks st a b → ⊥)) c.self.view_is (clear-is l locks c.self.inside.all c.self.invariant b m (omega (arith, same, lt)) c.masks.ensures free c.blocks-2.result c.blocks-2.ensures)
