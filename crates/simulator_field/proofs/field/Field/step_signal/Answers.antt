use Rattle.simulator_spec.specs.signal_ctl.Signal.{signal_behaviour}
use Rattle.simulator_field.specs.Field.{world_of}
use Rattle.simulator_field.proofs.Changes.{signal_world, stepped_there}
use Rattle.simulator_field.proofs.field.Field.step_signal.Goals as goal

pub returns-clause-world : goal.returns-clause-world
unfolding world_of
returns-clause-world c = λ site station frozen.
    signal_world site c.args.input c.args.connection c.args.place (world_of station frozen c.args.self.now) c.step.new.network.time _ c.step.new.network.sent c.step.ensures.time
    (stepped_there signal_behaviour c.args.input c.args.connection c.args.self.now.network.time c.args.place c.args.place c.args.self.now.signals.items c.index_mut.result.now c.step.new.self
    c.args.self.now.network.sent c.step.new.network.sent c.requires.there c.index_mut.ensures.value c.step.ensures.server c.step.ensures.sent)
