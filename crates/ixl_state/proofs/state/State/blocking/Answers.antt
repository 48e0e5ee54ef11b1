use Rattle.std.proofs.Common.{◌≡◌, ◌∙◌, false, None, Some, subst, sym}
use Rattle.std.proofs.lemmas.Bool.{false≢true}
use Rattle.route_lock.specs.Locks.{IsFault}
use Rattle.ixl_spec.specs.View.{first_blocking, is_set}
use Rattle.ixl_table.specs.Table.{as_route}
use Rattle.ixl_state.specs.State.{AtRoute, StateView}
use Rattle.ixl_state.proofs.RouteChange.{at-inside, kept-at, place-below}
use Rattle.ixl_state.proofs.state.State.blocking.Goals as goal

pub fault-requires-clause-free : goal.fault-requires-clause-free
fault-requires-clause-free c =
    let inside = c.self.inside in
    let is = c.self.invariant in
    let n = c.args.number in
    let there = place-below inside.table inside.field inside.routes.items inside.created inside.resumed inside.closed c.args.self.now n c.self.view_is is.routes_are c.requires.there in
    let at = kept-at inside.table inside.routes.items n is.routes_are there.0 in
    let free = at-inside inside.table inside.field inside.routes.items inside.created inside.resumed inside.closed c.args.self.now n c.self.view_is (λ row route. is_set route.phase ≡ false) c.requires.free at.0 at.1 at.2 in
    λ set. false≢true (sym free ∙ (c.set_routes_lock_sections.ensures inside.table inside.routes.items inside.locks is.locks_are is.routes_are.left n at.0 at.1 at.2).0 set)

pub returns-in-None : goal.returns-in-None
returns-in-None c =
    let inside = c.self.inside in
    let is = c.self.invariant in
    let n = c.args.number in
    let law = c.the_first_blocking_route_is_told_by_phase.ensures.none inside.table inside.routes.items inside.locks c.is_of_its_site.ensures.once c.is_of_its_site.ensures.table is.routes_are.each is.locks_are is.routes_are.left n in
    subst (λ (s : StateView). AtRoute s n (λ row route. None ≡ first_blocking n row 0 s.sited.table.rows s.ixl.routes)) c.self.view_is (λ row route at. sym ((law row route at).0 c.in-None.ensures.none))

pub returns-in-Some-Conflict : goal.returns-in-Some-Conflict
returns-in-Some-Conflict c =
    let inside = c.self.inside in
    let is = c.self.invariant in
    let n = c.args.number in
    let law = c.the_first_blocking_route_is_told_by_phase.ensures.some inside.table inside.routes.items inside.locks c.is_of_its_site.ensures.once c.is_of_its_site.ensures.table is.routes_are.each is.locks_are is.routes_are.left n in
    let fault = subst (IsFault inside.locks (as_route n)) c.in-Some-Conflict.field-0-is c.in-Some-Conflict.ensures.some in
    subst (λ (s : StateView). AtRoute s n (λ row route. Some c.in-Some-Conflict.route.0 ≡ first_blocking n row 0 s.sited.table.rows s.ixl.routes)) c.self.view_is (λ row route at. sym ((law row route at c.in-Some-Conflict.route.0).0 fault.0))

pub returns-in-Some-PointHeld : goal.returns-in-Some-PointHeld
returns-in-Some-PointHeld c =
    let inside = c.self.inside in
    let is = c.self.invariant in
    let n = c.args.number in
    let law = c.the_first_blocking_route_is_told_by_phase.ensures.some inside.table inside.routes.items inside.locks c.is_of_its_site.ensures.once c.is_of_its_site.ensures.table is.routes_are.each is.locks_are is.routes_are.left n in
    let fault = subst (IsFault inside.locks (as_route n)) c.in-Some-PointHeld.field-0-is c.in-Some-PointHeld.ensures.some in
    subst (λ (s : StateView). AtRoute s n (λ row route. Some c.in-Some-PointHeld.route.0 ≡ first_blocking n row 0 s.sited.table.rows s.ixl.routes)) c.self.view_is (λ row route at. sym ((law row route at c.in-Some-PointHeld.route.0).0 fault.0))
