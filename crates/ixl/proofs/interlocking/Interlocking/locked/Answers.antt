use Rattle.std.proofs.Common.{ℕ, subst}
use Rattle.std.specs.Prelude.{◌↔◌}
use Rattle.ixl_state.specs.bit_row.Places.{Has}
use Rattle.ixl_state.specs.ixl_spec.Due.{HoldsSection}
use Rattle.ixl.specs.Interlocking.{InterlockingState}
use Rattle.ixl_state.specs.State.{AtRoute}
use Rattle.ixl.proofs.interlocking.Interlocking.locked.Goals as goal

pub returns : goal.returns
returns c = subst (λ (i : InterlockingState). AtRoute i.state c.args.route.0 (λ row kept. (section : ℕ) → Has c.locked.result section ↔ HoldsSection row kept.phase section)) c.self.view_is c.locked.ensures
