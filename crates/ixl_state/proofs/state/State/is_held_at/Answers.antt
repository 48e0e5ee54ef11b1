use Rattle.std.proofs.Common.{◌≡◌, subst}
use Rattle.ixl_spec.specs.View.{is_held_at}
use Rattle.ixl_known.specs.Field.{kept}
use Rattle.ixl_state.specs.State.{StateView}
use Rattle.ixl_state.proofs.RouteFound.{same-truth}
use Rattle.ixl_state.proofs.state.State.is_held_at.Goals as goal

pub returns : goal.returns
returns c =
    let inside = c.self.inside in
    let is = c.self.invariant in
    let ixl = kept inside.field (record { routes = inside.routes.items; created = inside.created; resumed = inside.resumed; closed = inside.closed }) in
    let law = c.points_are_held_by_some_phase.ensures inside.table ixl inside.locks c.is_of_its_site.ensures.table is.routes_are.each is.locks_are c.args.point c.args.side in
    subst (λ (s : StateView). c.is_held.result ≡ is_held_at s.sited.table s.ixl c.args.point c.args.side) c.self.view_is
    (same-truth c.is_held.result (is_held_at inside.table.table ixl c.args.point c.args.side) (λ h. law.0 (c.is_held.ensures.0 h)) (λ h. c.is_held.ensures.1 (law.1 h)))
