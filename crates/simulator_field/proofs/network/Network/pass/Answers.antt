use Rattle.simulator_field.proofs.Kept.{kept_later}
use Rattle.simulator_field.proofs.network.Network.pass.Goals as goal

pub invariant_of-self : goal.invariant_of-self
invariant_of-self c = (
  kept_later c.self.inside.time c.args.elapsed c.self.inside.row.items c.self.inside.entries.items c.self.invariant.0,
  c.self.invariant.1,
  c.self.invariant.2,
  c.self.invariant.3,
  c.self.invariant.4,
)
