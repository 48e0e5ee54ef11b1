use Rattle.std.proofs.Common.{◌↔◌, ℕ, subst}
use Rattle.ixl_state.specs.State.{AtRoute}
use Rattle.ixl_state.specs.bit_row.Places.{Has}
use Rattle.ixl_state.specs.ixl_spec.Due.{HoldsSection}
use Rattle.simulator.specs.Interlocking.{ClockedInterlockingView}
use Rattle.simulator.proofs.clocked_interlocking.ClockedInterlocking.locked.Goals as goal

pub returns : goal.returns
returns c =
    let Locks : ClockedInterlockingView → Type 0 = λ v. AtRoute (record { sited = v.sited; ixl = v.interlocking.ixl }) c.args.route.0
    (λ row kept. (section : ℕ) → Has c.locked.result section ↔ HoldsSection row kept.phase section)
    in subst Locks c.self.view_is c.locked.ensures
