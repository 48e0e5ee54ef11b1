use Rattle.std.proofs.Common.{refl, ap}
use Rattle.simulator_field.specs.Network.{NetworkState}
use Rattle.simulator_spec.specs.object_host.declared.input.Input.TheVariants as inputs
use Rattle.simulator_spec.specs.object_host.declared.sense.Sense.TheVariants as sense
use Rattle.std.specs.Prelude.{slice_set}
use Rattle.simulator_spec.specs.Happens.{point_stepped}
use Rattle.simulator_spec.specs.State.{WorldState}
use Rattle.simulator.specs.inside.Parts.{site_of}
use Rattle.simulator_field.specs.Field.{world_of}
use Rattle.simulator.proofs.PartsOfWorld.{goes_behind}
use Rattle.simulator.proofs.parts.Parts.reach.Goals as goal

pub returns : goal.returns
unfolding world_of
returns c =
    let self = c.args.self.now
    in goes_behind (λ (world : WorldState). record world { positions = slice_set world.positions c.args.point.0 c.args.position })
    (point_stepped (site_of self) (inputs.Sense (sense.Position c.args.position)) 0 c.args.point.0) self (record self { field = c.lay.new.self }) c.step_point.new.self
    (c.lay.ensures.world self.interlocking.interlocking self.frozen.items) refl (ap (λ (n : NetworkState). n.room) c.lay.ensures.network) c.step_point.ensures
