use Rattle.std.proofs.Common.{ap, rules}
use Rattle.simulator_field.specs.Network.{NetworkState}
use Rattle.simulator_field.specs.Field.{world_of}
use Rattle.simulator_field.proofs.Later.{passed_world}
use Rattle.simulator_field.proofs.field.Field.pass.Goals as goal

pub returns-clause-world : goal.returns-clause-world
unfolding world_of
returns-clause-world c = λ station frozen all steps_are.
    passed_world c.args.elapsed _ c.pass.new.self.time all c.args.steps.now _ _ (world_of station frozen c.args.self.now) c.pass_all.new.servers.items c.pass_all-2.new.servers.items c.pass_all-3.new.servers.items
    c.pass.new.self.sent c.pass_all.ensures.servers c.pass_all-2.ensures.servers c.pass_all-3.ensures.servers (ap (λ (n : NetworkState). n.time) c.pass.ensures) (ap (λ (n : NetworkState). n.sent) c.pass.ensures)
    steps_are (search rules) (search rules) (search rules)
