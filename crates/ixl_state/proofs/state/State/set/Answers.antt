use Rattle.std.proofs.Common.{◌≡◌, ◌∙◌, false, None, ap, arith, refl, slice_set, subst, sym}
use Rattle.std.proofs.lemmas.Bool.{false≢true}
use Rattle.ixl_spec.specs.bit_row.Places.{Places}
use Rattle.route_lock.specs.Locks.{AreAllSections, locking}
use Rattle.ixl_spec.specs.Commands.{route_set, set_anew}
use Rattle.ixl_spec.specs.State.{RouteState}
use Rattle.ixl_spec.specs.View.{first_blocking, is_set}
use Rattle.ixl_table.specs.Table.{as_route}
use Rattle.ixl_state.specs.State.{AtRoute, StateView}
use Rattle.ixl_state.specs.inside.Kept.{IsState}
use Rattle.ixl_state.proofs.Lists.{changed-is-set}
use Rattle.ixl_state.proofs.LocksFreed.{all-locked, reserved}
use Rattle.ixl_state.proofs.RouteChange.{at-inside, kept-at, lock-within, place-below, put-state, read-is, unmoved-state, view_of}
use Rattle.ixl_state.proofs.state.State.set.Goals as goal

pub reserve-reserved-requires-clause-free : goal.reserve-reserved-requires-clause-free
reserve-reserved-requires-clause-free c =
    let inside = c.self.inside in
    let is = c.self.invariant in
    let n = c.args.number in
    let there = place-below inside.table inside.field inside.routes.items inside.created inside.resumed inside.closed c.args.self.now n c.self.view_is is.routes_are c.requires.there in
    let at = kept-at inside.table inside.routes.items n is.routes_are there.0 in
    let free = at-inside inside.table inside.field inside.routes.items inside.created inside.resumed inside.closed c.args.self.now n c.self.view_is (λ row route. is_set route.phase ≡ false) c.requires.free at.0 at.1 at.2 in
    λ set. false≢true (sym free ∙ (c.set_routes_lock_sections.ensures inside.table inside.routes.items inside.locks is.locks_are is.routes_are.left n at.0 at.1 at.2).0 set)

pub invariant_of-self : goal.invariant_of-self
invariant_of-self c =
    let inside = c.self.inside in
    let is = c.self.invariant in
    let n = c.args.number in
    let there = place-below inside.table inside.field inside.routes.items inside.created inside.resumed inside.closed c.args.self.now n c.self.view_is is.routes_are c.requires.there in
    let at = kept-at inside.table inside.routes.items n is.routes_are there.0 in
    let none = subst (λ (s : StateView). AtRoute s n (λ row route. first_blocking n row 0 s.sited.table.rows s.ixl.routes ≡ None)) (sym c.self.view_is) c.requires.unblocked at.0 at.1 at.2 in
    let unblocked =
    (c.the_first_blocking_route_is_told_by_phase.ensures.none inside.table inside.routes.items inside.locks c.is_of_its_site.ensures.once c.is_of_its_site.ensures.table is.routes_are.each is.locks_are is.routes_are.left n at.0 at.1 at.2).1 none in
    let done : (sections : Places) × AreAllSections inside.locks.table (as_route n) sections × (c.reserve-reserved.new.self ≡ locking inside.locks (as_route n) sections) =
    reserved _ inside.locks (as_route n) c.reserve-reserved.result c.reserve-reserved.ensures.set c.reserve-reserved.ensures.refused unblocked in
    let new = c.set_anew.ensures ∙ ap set_anew (read-is inside.routes.items n at.1 c.index.result.now at.2.1 c.index.ensures) in
    let within = lock-within inside.table inside.routes.items inside.locks n is.locks_are c.is_of_its_site.ensures.table c.keeps_each_route.ensures there.0 in
    let some = (c.names_what_is_there.ensures.there.rows n at.0 at.2.0).some in
    subst (λ (r : RouteState). IsState inside.table c.unmove.new.self (slice_set inside.routes.items n r) c.reserve-reserved.new.self) (sym new)
    (put-state inside.table c.unmove.new.self inside.routes.items inside.locks c.reserve-reserved.new.self n at.0 at.1 (set_anew at.1) done.0 at.2
    (unmoved-state inside.table inside.field c.unmove.new.self inside.routes.items inside.locks n c.unmove.ensures is) within done.2
    (all-locked inside.table inside.routes.items inside.locks c.is_of_its_site.ensures.table is.locks_are n at.0 at.1 at.2 (c.a_route_leads_over_its_sections_alone.ensures inside.table.site c.is_of_its_site.ensures.once (as_route n)) done.0 done.1)
    (λ set. omega (arith, some)) refl)

pub returns : goal.returns
returns c =
    let inside = c.self.inside in
    let is = c.self.invariant in
    let n = c.args.number in
    let there = place-below inside.table inside.field inside.routes.items inside.created inside.resumed inside.closed c.args.self.now n c.self.view_is is.routes_are c.requires.there in
    let at = kept-at inside.table inside.routes.items n is.routes_are there.0 in
    let new = c.set_anew.ensures ∙ ap set_anew (read-is inside.routes.items n at.1 c.index.result.now at.2.1 c.index.ensures) in
    let unmoved = c.unmove.ensures in
    let routes = changed-is-set set_anew inside.routes.items n at.1 c.set_anew.result at.2.1 new in
    (λ i. view_of inside.table (unmoved i) (routes i) inside.created inside.resumed inside.closed) ∙ ap (λ (s : StateView). record s { ixl = route_set n s.ixl }) c.self.view_is
