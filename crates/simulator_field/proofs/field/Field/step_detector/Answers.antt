use Rattle.simulator_spec.specs.tds_ctl.Controlled.{detection_behaviour}
use Rattle.simulator_field.specs.Field.{world_of}
use Rattle.simulator_field.proofs.Changes.{detector_world, stepped_there}
use Rattle.simulator_field.proofs.field.Field.step_detector.Goals as goal

pub returns-clause-world : goal.returns-clause-world
unfolding world_of
returns-clause-world c = λ site station frozen is_link.
    detector_world site c.args.input c.args.connection c.args.place c.args.link (world_of station frozen c.args.self.now) c.step.new.network.time _ c.step.new.network.sent c.step.ensures.time is_link
    (stepped_there detection_behaviour c.args.input c.args.connection c.args.self.now.network.time c.args.link c.args.place c.args.self.now.detectors.items c.index_mut.result.now c.step.new.self
    c.args.self.now.network.sent c.step.new.network.sent c.requires.there c.index_mut.ensures.value c.step.ensures.server c.step.ensures.sent)
