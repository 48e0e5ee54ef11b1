use Rattle.std.proofs.Common.{ℕ, ◌↔◌, subst, sym}
use Rattle.ixl_spec.specs.bit_row.Places.{Has, Places}
use Rattle.ixl_spec.specs.Due.{HoldsSection}
use Rattle.ixl_state.specs.State.{AtRoute, StateView}
use Rattle.ixl_state.proofs.state.State.locked.Goals as goal

pub returns : goal.returns
returns c =
    subst (λ (s : StateView). AtRoute s c.args.number (λ row route. (section : ℕ) → Has c.locked.result section ↔ HoldsSection row route.phase section)) c.self.view_is
    (λ row route at section. subst (λ (x : Places). Has x section ↔ HoldsSection row route.phase section) (sym c.locked.ensures) (c.self.invariant.locks_are.locked c.args.number row route at section))
