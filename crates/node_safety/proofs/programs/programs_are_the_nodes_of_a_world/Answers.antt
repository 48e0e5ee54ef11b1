use Rattle.node_kinds.specs.simulator_spec.First.{new_point, new_signal}
use Rattle.node_kinds.specs.simulator_spec.point_ctl.Controlled.{point_behaviour}
use Rattle.node_kinds.specs.simulator_spec.signal_ctl.Signal.{signal_behaviour}
use Rattle.node_kinds.specs.simulator_spec.tds_ctl.Controlled.{detection_behaviour}
use Rattle.simulator_node_laws.specs.Lives.{detector_sensing}
use Rattle.simulator_node_laws.specs.Said.{detector_life}
use Rattle.simulator_node_laws.specs.Shown.{point_life, signal_life}
use Rattle.node_safety.proofs.ByCalls.{node_is}
use Rattle.node_safety.proofs.programs.programs_are_the_nodes_of_a_world.Goals as goal

pub returns : goal.returns
returns c = record {
  signals = λ site table events place entry is whole.
      let life = signal_life site table events place in
      node_is signal_behaviour (new_signal site life.begins entry) life.begins.clock life.came is whole c.calls_are_inputs.ensures.host;
  points = λ site table outset events place entry is whole.
      let life = point_life site table outset events place in
      node_is point_behaviour (new_point site life.begins life.sensed entry) life.begins.clock life.came is whole c.calls_are_inputs-2.ensures.host;
  detectors = λ site table outset events place entry is whole.
      let life = detector_life site table outset events place in
      node_is detection_behaviour (detector_sensing site life.begins life.sensed entry) life.begins.clock life.came is whole c.calls_are_inputs-3.ensures.host;
}
