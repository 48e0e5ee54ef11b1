use Rattle.std.proofs.Common.{◌≡◌, ◌<◌, List, sym, ap, subst, arith, length}
use Rattle.control_table.specs.layout.declared.ids.RouteId.{RouteId}
use Rattle.route_lock.specs.declared.rows.Locked.{Locked}
use Rattle.route_lock.specs.Rows.{IsFirstRowsFault, NoneBlocks}
use Rattle.route_lock.specs.Locks.{Blocks, IsFault, IsSet, LockState}
use Rattle.route_lock.proofs.KeptLaws.{fault-is, never-blocks, none-map, some-map}
use Rattle.route_lock.proofs.locks.Locks.fault.Goals as goal

pub returns-then-clear_for-clause-none : goal.returns-then-clear_for-clause-none
returns-then-clear_for-clause-none c = c.clear_for.ensures.0 c.if-clear_for.true

pub returns-clause-some : goal.returns-clause-some
returns-clause-some c =
    let l = c.self.inside.table in
    let b = c.args.route in
    let m = c.masks.result in
    let same = ap (λ (st : LockState). length st.table.routes) c.self.view_is in
    let there = c.requires.there in
    let lt : b.0 < length l.routes = omega (arith, same, there) in
    let free = subst (λ (st : LockState). IsSet st b → ⊥) (sym c.self.view_is) c.requires.free in
    some-map c.first_fault.result
    (λ f h. subst (λ (st : LockState). IsFault st b f) c.self.view_is (fault-is l c.self.inside.locks.items c.self.inside.all c.self.invariant b m lt c.masks.ensures free f (subst (λ (ls : List Locked). IsFirstRowsFault ls m f) c.deref.ensures.value h)))
    c.first_fault.ensures.some

pub returns-clause-none : goal.returns-clause-none
returns-clause-none c =
    let l = c.self.inside.table in
    let b = c.args.route in
    let m = c.masks.result in
    let same = ap (λ (st : LockState). length st.table.routes) c.self.view_is in
    let there = c.requires.there in
    let lt : b.0 < length l.routes = omega (arith, same, there) in
    let free = subst (λ (st : LockState). IsSet st b → ⊥) (sym c.self.view_is) c.requires.free in
    none-map c.first_fault.result
    (λ none. subst (λ (st : LockState). (a : RouteId) → Blocks st a b → ⊥) c.self.view_is (never-blocks l c.self.inside.locks.items c.self.inside.all c.self.invariant b m lt c.masks.ensures free (subst (λ (ls : List Locked). NoneBlocks ls m) c.deref.ensures.value none)))
    c.first_fault.ensures.none
