use Rattle.std.proofs.Common.{◌∙◌, ap, refl, subst, sym}
use Rattle.std.specs.FinSet.{empty}
use Rattle.std.proofs.Common.{slice_set}
use Rattle.std.proofs.lemmas.Bool.{false≢true}
use Rattle.ixl_spec.specs.Rules.{freed}
use Rattle.ixl_spec.specs.State.{RouteState}
use Rattle.ixl_state.specs.inside.Kept.{IsState}
use Rattle.ixl_state.proofs.LocksFreed.{none-held}
use Rattle.ixl_state.proofs.RouteChange.{kept-at, lock-within, place-below, put-state, read-is, view-changed}
use Rattle.ixl_state.proofs.state.State.free.Goals as goal

pub invariant_of-self : goal.invariant_of-self
invariant_of-self c =
    let inside = c.self.inside in
    let is = c.self.invariant in
    let n = c.args.number in
    let there = place-below inside.table inside.field inside.routes.items inside.created inside.resumed inside.closed c.args.self.now n c.self.view_is is.routes_are c.requires.there in
    let at = kept-at inside.table inside.routes.items n is.routes_are there.0 in
    let new = c.freed.ensures ∙ ap freed (read-is inside.routes.items n at.1 c.index.result.now at.2.1 c.index.ensures) in
    let within = lock-within inside.table inside.routes.items inside.locks n is.locks_are c.is_of_its_site.ensures.table c.keeps_each_route.ensures there.0 in
    subst (λ (r : RouteState). IsState inside.table inside.field (slice_set inside.routes.items n r) c.free.new.self) (sym new)
    (put-state inside.table inside.field inside.routes.items inside.locks c.free.new.self n at.0 at.1 (freed at.1) empty at.2 is within c.free.ensures (none-held at.0) (λ set. absurd (false≢true set)) refl)

pub returns : goal.returns
returns c =
    let inside = c.self.inside in
    let is = c.self.invariant in
    let n = c.args.number in
    let there = place-below inside.table inside.field inside.routes.items inside.created inside.resumed inside.closed c.args.self.now n c.self.view_is is.routes_are c.requires.there in
    let at = kept-at inside.table inside.routes.items n is.routes_are there.0 in
    let new = c.freed.ensures ∙ ap freed (read-is inside.routes.items n at.1 c.index.result.now at.2.1 c.index.ensures) in
    view-changed inside.table inside.routes.items n at.0 at.1 c.freed.result at.2 inside.field inside.created inside.resumed inside.closed c.args.self.now c.self.view_is freed new
