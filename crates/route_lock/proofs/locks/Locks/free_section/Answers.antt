use Rattle.std.proofs.Common.{◌≡◌, ◌<◌, ◌≤◌, ℕ, List, sym, ap, subst, ◌∙◌, arith, length}
use Rattle.std.specs.FinSet.{remove}
use Rattle.control_table.specs.layout.declared.ids.SectionId.{SectionId}
use Rattle.control_table.specs.bit_row.Places.{Has, Places}
use Rattle.control_table.specs.Table.{AreSections}
use Rattle.route_lock.specs.Locks.{LockState, LocksAt, locked_by, locking}
use Rattle.route_lock.proofs.KeptLaws.{get-at, has-remove, locked-of, place-below, section-inside, section-is}
use Rattle.route_lock.proofs.ApartLaws.{freed-apart}
use Rattle.route_lock.proofs.locks.Locks.free_section.Goals as goal

pub offset_bounds-sections-k : goal.offset_bounds-sections-k
offset_bounds-sections-k c =
    let ss = c.sections.result.now in
    let a = c.args.route in
    let at = c.requires.locked ss (subst (λ (st : LockState). AreSections st.table a ss) c.self.view_is c.sections.ensures) in
    let lt = section-inside ss c.args.k at.0 at.1 in
    let few = (c.a_route_leads_over_sections_that_are_there.ensures c.self.inside.table c.facts_of.ensures.station a ss c.sections.ensures).1 in
    record { fits = omega (arith, lt, few) }

pub bounds-sections-k : goal.bounds-sections-k
bounds-sections-k c =
    let ss = c.sections.result.now in
    let at = c.requires.locked ss (subst (λ (st : LockState). AreSections st.table c.args.route ss) c.self.view_is c.sections.ensures) in
    section-inside ss c.args.k at.0 at.1

pub without-left-requires : goal.without-left-requires
without-left-requires c =
    let ss = c.sections.result.now in
    let a = c.args.route in
    let at = c.requires.locked ss (subst (λ (st : LockState). AreSections st.table a ss) c.self.view_is c.sections.ensures) in
    let there = (c.a_route_leads_over_sections_that_are_there.ensures c.self.inside.table c.facts_of.ensures.station a ss c.sections.ensures).2 c.args.k (record { 0 = 0 }) (section-inside ss c.args.k at.0 at.1) in
    let few = c.facts_of.ensures.station.limits.sections in
    omega (arith, there, few)

pub put-requires-clause-its : goal.put-requires-clause-its
put-requires-clause-its c = λ s h.
    let k = c.index.result.now in
    let at = get-at c.self.inside.locks.items c.args.route.0 k (place-below c.self.inside.table c.self.inside.locks.items c.args.self.now c.args.route c.self.view_is c.self.invariant.each c.requires.there) c.index.ensures in
    let is = locked-of c.self.inside.table c.self.inside.locks.items c.args.self.now c.args.route k c.self.view_is at in
    c.facts.ensures.its c.args.route s (subst (λ (x : Places). Has x s) (sym is) (has-remove k.sections _ s (subst (λ (x : Places). Has x s) c.without-left.ensures h)))

pub put-requires-clause-apart : goal.put-requires-clause-apart
put-requires-clause-apart c =
    let k = c.index.result.now in
    let there = c.requires.there in
    let each = c.facts.ensures.each in
    let at = get-at c.self.inside.locks.items c.args.route.0 k (place-below c.self.inside.table c.self.inside.locks.items c.args.self.now c.args.route c.self.view_is c.self.invariant.each there) c.index.ensures in
    let is = locked-of c.self.inside.table c.self.inside.locks.items c.args.self.now c.args.route k c.self.view_is at in
    freed-apart c.args.self.now c.args.route c.without-left.result (omega (arith, each, there)) (λ s h. subst (λ (x : Places). Has x s) (sym is) (has-remove k.sections _ s (subst (λ (x : Places). Has x s) c.without-left.ensures h))) c.facts.ensures.apart

pub returns : goal.returns
returns c =
    let ss = c.sections.result.now in
    let a = c.args.route in
    let are = subst (λ (st : LockState). AreSections st.table a ss) c.self.view_is c.sections.ensures in
    let found = c.requires.locked ss are in
    let k = c.index.result.now in
    let at = get-at c.self.inside.locks.items a.0 k (place-below c.self.inside.table c.self.inside.locks.items c.args.self.now a c.self.view_is c.self.invariant.each c.requires.there) c.index.ensures in
    let is = locked-of c.self.inside.table c.self.inside.locks.items c.args.self.now a k c.self.view_is at in
    let gone = section-is ss c.args.k found.0 (record { 0 = 0 }) found.1 in
    (found.0, (ss, are, found.1), c.put.ensures ∙ ap (λ (x : Places). locking c.args.self.now a x) (c.without-left.ensures ∙ (λ i. remove (sym is i) (gone i).0)))
