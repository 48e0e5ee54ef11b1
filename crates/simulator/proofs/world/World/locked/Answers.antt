use Rattle.std.proofs.Common.{◌↔◌, ℕ, subst}
use Rattle.ixl_state.specs.State.{AtRoute}
use Rattle.ixl_state.specs.bit_row.Places.{Has}
use Rattle.ixl_state.specs.ixl_spec.Due.{HoldsSection}
use Rattle.simulator_field.specs.Field.{world_of}
use Rattle.simulator.specs.World.{View}
use Rattle.simulator.proofs.world.World.locked.Goals as goal

pub returns : goal.returns
unfolding world_of
returns c =
    let Locks : View → Type 0 = λ v. AtRoute (record { sited = v.sited; ixl = v.run.interlocking.ixl }) c.args.route.0
    (λ row kept. (section : ℕ) → Has c.locked.result section ↔ HoldsSection row kept.phase section)
    in subst Locks c.self.view_is c.locked.ensures
