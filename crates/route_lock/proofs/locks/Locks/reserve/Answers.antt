use Rattle.std.proofs.Common.{◌≡◌, List, arith, subst}
use Rattle.control_table.specs.layout.declared.ids.RouteId.{RouteId}
use Rattle.control_table.specs.layout.Entries.{Site}
use Rattle.control_table.specs.declared.masks.RouteMasks.{RouteMasks}
use Rattle.control_table.specs.Masks.{AreMasks}
use Rattle.route_lock.specs.declared.rows.Locked.{Locked}
use Rattle.route_lock.specs.Rows.{state_of}
use Rattle.route_lock.specs.Locks.{AreAllSections, LockState}
use Rattle.route_lock.proofs.ApartLaws.{reserved-apart}
use Rattle.route_lock.proofs.locks.Locks.reserve.Goals as goal

-- the masks of the table that is kept are those of its state
its : (l : Site) (locks : List Locked) (v : LockState) (a : RouteId) (m : RouteMasks) → state_of l locks ≡ v → AreMasks l a m → AreAllSections v.table a m.sections
its l locks v a m is are = subst (λ (st : LockState). AreAllSections st.table a m.sections) is are.sections

pub put-requires-clause-its : goal.put-requires-clause-its
put-requires-clause-its c = λ s h. ((its c.self.inside.table c.self.inside.locks.items c.args.self.now c.args.route c.masks-need.result c.self.view_is c.masks-need.ensures) (record { 0 = s })).0 h

pub put-requires-clause-apart : goal.put-requires-clause-apart
put-requires-clause-apart c =
    let each = c.facts.ensures.each in
    let there = c.requires.there in
    reserved-apart c.args.self.now c.args.route c.masks-need.result.sections (omega (arith, each, there)) c.requires.free c.in_default.ensures.none (its c.self.inside.table c.self.inside.locks.items c.args.self.now c.args.route c.masks-need.result c.self.view_is c.masks-need.ensures) c.facts.ensures.apart

pub returns-clause-set : goal.returns-clause-set
returns-clause-set c =
    (c.masks-need.result.sections, its c.self.inside.table c.self.inside.locks.items c.args.self.now c.args.route c.masks-need.result c.self.view_is c.masks-need.ensures, c.put.ensures)
