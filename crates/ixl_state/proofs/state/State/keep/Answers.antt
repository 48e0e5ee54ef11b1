use Rattle.std.proofs.Common.{◌≡◌}
use Rattle.ixl_state.specs.inside.Kept.{HoldsAlike, IsPassageOf}
use Rattle.ixl_state.proofs.RouteChange.{at-inside, kept-at, kept-state, place-below, view-changed}
use Rattle.ixl_state.proofs.state.State.keep.Goals as goal

pub invariant_of-self : goal.invariant_of-self
invariant_of-self c =
    let inside = c.self.inside in
    let is = c.self.invariant in
    let n = c.args.number in
    let there = place-below inside.table inside.field inside.routes.items inside.created inside.resumed inside.closed c.args.self.now n c.self.view_is is.routes_are c.requires.there in
    let at = kept-at inside.table inside.routes.items n is.routes_are there.0 in
    let alike = at-inside inside.table inside.field inside.routes.items inside.created inside.resumed inside.closed c.args.self.now n c.self.view_is (λ row old. HoldsAlike old.phase c.args.route.phase) c.requires.alike at.0 at.1 at.2 in
    let passage = at-inside inside.table inside.field inside.routes.items inside.created inside.resumed inside.closed c.args.self.now n c.self.view_is (λ row old. IsPassageOf row old.passage → IsPassageOf row c.args.route.passage) c.requires.passage at.0 at.1 at.2 in
    kept-state inside.table inside.field inside.routes.items inside.locks n at.0 at.1 c.args.route at.2 is alike (passage (is.routes_are.passages n at.0 at.1 at.2))

pub returns : goal.returns
returns c = λ change changes.
    let inside = c.self.inside in
    let is = c.self.invariant in
    let n = c.args.number in
    let there = place-below inside.table inside.field inside.routes.items inside.created inside.resumed inside.closed c.args.self.now n c.self.view_is is.routes_are c.requires.there in
    let at = kept-at inside.table inside.routes.items n is.routes_are there.0 in
    view-changed inside.table inside.routes.items n at.0 at.1 c.args.route at.2 inside.field inside.created inside.resumed inside.closed c.args.self.now c.self.view_is change
    (at-inside inside.table inside.field inside.routes.items inside.created inside.resumed inside.closed c.args.self.now n c.self.view_is (λ row old. c.args.route ≡ change old) changes at.0 at.1 at.2)
