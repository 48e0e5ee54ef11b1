use Rattle.std.proofs.Common.{◌≡◌, ◌∙◌, ◌+◌, ◌<◌, ap, arith, length, refl, slice_set, subst, sym}
use Rattle.std.specs.FinSet.{remove}
use Rattle.route_lock.specs.Locks.{locked_by}
use Rattle.ixl_spec.specs.Rules.{come_to}
use Rattle.ixl_spec.specs.State.{RouteState}
use Rattle.ixl_spec.specs.declared.phase.Phase.TheVariants as phase
use Rattle.ixl_table.specs.Table.{as_route}
use Rattle.ixl_state.specs.inside.Kept.{IsState}
use Rattle.ixl_state.proofs.LocksFreed.{locks-next, one-freed}
use Rattle.ixl_state.proofs.RouteChange.{at-inside, kept-at, lock-within, place-below, put-state, read-is, view-changed}
use Rattle.ixl_state.proofs.state.State.free_section.Goals as goal

pub overflow_add-ended : goal.overflow_add-ended
overflow_add-ended c =
    let inside = c.self.inside in
    let is = c.self.invariant in
    let n = c.args.number in
    let there = place-below inside.table inside.field inside.routes.items inside.created inside.resumed inside.closed c.args.self.now n c.self.view_is is.routes_are c.requires.there in
    let at = kept-at inside.table inside.routes.items n is.routes_are there.0 in
    let more = at-inside inside.table inside.field inside.routes.items inside.created inside.resumed inside.closed c.args.self.now n c.self.view_is (λ row route. c.args.done + 1 < length row.sections) c.requires.more at.0 at.1 at.2 in
    let few = (c.names_what_is_there.ensures.there.rows n at.0 at.2.0).few in
    record { fits = omega (arith, more, few) }

pub free_section-requires-clause-locked : goal.free_section-requires-clause-locked
free_section-requires-clause-locked c =
    let inside = c.self.inside in
    let is = c.self.invariant in
    let n = c.args.number in
    let there = place-below inside.table inside.field inside.routes.items inside.created inside.resumed inside.closed c.args.self.now n c.self.view_is is.routes_are c.requires.there in
    let at = kept-at inside.table inside.routes.items n is.routes_are there.0 in
    let ended = at-inside inside.table inside.field inside.routes.items inside.created inside.resumed inside.closed c.args.self.now n c.self.view_is (λ row route. route.phase ≡ phase.Ended c.args.clock c.args.done) c.requires.ended at.0 at.1 at.2 in
    let more = at-inside inside.table inside.field inside.routes.items inside.created inside.resumed inside.closed c.args.self.now n c.self.view_is (λ row route. c.args.done + 1 < length row.sections) c.requires.more at.0 at.1 at.2 in
    locks-next inside.table inside.routes.items inside.locks c.is_of_its_site.ensures.table is.locks_are n at.0 at.1 at.2 c.args.clock c.args.done ended (omega (arith, more))

pub invariant_of-self : goal.invariant_of-self
invariant_of-self c =
    let inside = c.self.inside in
    let is = c.self.invariant in
    let n = c.args.number in
    let there = place-below inside.table inside.field inside.routes.items inside.created inside.resumed inside.closed c.args.self.now n c.self.view_is is.routes_are c.requires.there in
    let at = kept-at inside.table inside.routes.items n is.routes_are there.0 in
    let ended = at-inside inside.table inside.field inside.routes.items inside.created inside.resumed inside.closed c.args.self.now n c.self.view_is (λ row route. route.phase ≡ phase.Ended c.args.clock c.args.done) c.requires.ended at.0 at.1 at.2 in
    let more = at-inside inside.table inside.field inside.routes.items inside.created inside.resumed inside.closed c.args.self.now n c.self.view_is (λ row route. c.args.done + 1 < length row.sections) c.requires.more at.0 at.1 at.2 in
    let next = come_to (phase.Ended c.args.clock (c.args.done + 1)) in
    let new = c.come_to.ensures ∙ ap next (read-is inside.routes.items n at.1 c.index.result.now at.2.1 c.index.ensures) in
    let within = lock-within inside.table inside.routes.items inside.locks n is.locks_are c.is_of_its_site.ensures.table c.keeps_each_route.ensures there.0 in
    let gone = c.free_section.ensures in
    subst (λ (r : RouteState). IsState inside.table inside.field (slice_set inside.routes.items n r) c.free_section.new.self) (sym new)
    (put-state inside.table inside.field inside.routes.items inside.locks c.free_section.new.self n at.0 at.1 (next at.1) (remove (locked_by inside.locks (as_route n)) gone.0.0) at.2 is within gone.2
    (one-freed inside.table inside.routes.items inside.locks c.is_of_its_site.ensures.table is.locks_are n at.0 at.1 at.2 c.args.clock c.args.done ended (omega (arith, more)) gone.0 gone.1) (λ set. more) refl)

pub returns : goal.returns
returns c =
    let inside = c.self.inside in
    let is = c.self.invariant in
    let n = c.args.number in
    let there = place-below inside.table inside.field inside.routes.items inside.created inside.resumed inside.closed c.args.self.now n c.self.view_is is.routes_are c.requires.there in
    let at = kept-at inside.table inside.routes.items n is.routes_are there.0 in
    let next = come_to (phase.Ended c.args.clock (c.args.done + 1)) in
    let new = c.come_to.ensures ∙ ap next (read-is inside.routes.items n at.1 c.index.result.now at.2.1 c.index.ensures) in
    view-changed inside.table inside.routes.items n at.0 at.1 c.come_to.result at.2 inside.field inside.created inside.resumed inside.closed c.args.self.now c.self.view_is next new
