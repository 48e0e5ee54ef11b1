use Rattle.std.proofs.Common.{◌≡◌, ◌↔◌, List, subst}
use Rattle.std.specs.Prelude.{IsTrue}
use Rattle.ixl_spec.specs.State.{RouteState}
use Rattle.ixl_spec.specs.View.{is_held_with_authority}
use Rattle.ixl_state.specs.State.{StateView}
use Rattle.ixl_state.specs.inside.Kept.{SomeHoldsWithAuthority}
use Rattle.ixl_state.proofs.RouteFound.{held-with-authority}
use Rattle.ixl_state.proofs.state.State.is_held_with_authority.Goals as goal

pub returns : goal.returns
returns c =
    let inside = c.self.inside in
    let is = c.self.invariant in
    let law = c.points_are_held_by_phase_at_a_side.ensures inside.table inside.routes.items inside.locks c.is_of_its_site.ensures.table is.locks_are in
    let some = subst (λ (rs : List RouteState). IsTrue c.some_holds_with_authority.result ↔ SomeHoldsWithAuthority inside.locks rs c.args.point) c.deref.ensures.value c.some_holds_with_authority.ensures in
    subst (λ (s : StateView). c.some_holds_with_authority.result ≡ is_held_with_authority s.sited.table s.ixl c.args.point) c.self.view_is
    (held-with-authority inside.table inside.routes.items inside.locks c.args.point c.some_holds_with_authority.result is.routes_are.each (λ number row route at. law number row route at c.args.point) some)
