use Rattle.node_kinds.specs.Controllers.{detector_kind, point_kind, signal_kind}
use Rattle.node_kinds.specs.simulator_spec.First.{new_point, new_signal}
use Rattle.node_kinds.specs.simulator_spec.point_ctl.Controlled.{point_behaviour}
use Rattle.node_kinds.specs.simulator_spec.signal_ctl.Signal.{signal_behaviour}
use Rattle.node_kinds.specs.simulator_spec.tds_ctl.Controlled.{detection_behaviour}
use Rattle.simulator_node_laws.specs.Lives.{detector_sensing, host_after}
use Rattle.simulator_node_laws.specs.Said.{detector_life}
use Rattle.simulator_node_laws.specs.Shown.{point_life, signal_life}
use Rattle.node_safety.proofs.Seen.{host_lived, ixl_is}
use Rattle.node_safety.proofs.processes.processes_are_the_nodes_of_a_world.Goals as goal

pub returns-clause-station : goal.returns-clause-station
returns-clause-station c site table outset events processes are =
    ixl_is c.a_node_is_what_came_to_it-4.ensures c.interlockings_are_those_of_a_world.ensures site table outset events processes are

pub returns-clause-signals : goal.returns-clause-signals
returns-clause-signals c site table outset events processes are place entry there =
    let life = signal_life site table events place in
    host_lived signal_kind (host_after signal_behaviour) life.came (processes.signal place) (new_signal site life.begins entry) c.a_node_is_what_came_to_it.ensures c.controllers_are_those_of_a_world.ensures.signals
    (are.signal_lived place entry there) (are.signal_made place entry there)

pub returns-clause-points : goal.returns-clause-points
returns-clause-points c site table outset events processes are place entry there =
    let life = point_life site table outset events place in
    host_lived point_kind (host_after point_behaviour) life.came (processes.point place) (new_point site life.begins life.sensed entry) c.a_node_is_what_came_to_it-2.ensures c.controllers_are_those_of_a_world.ensures.points
    (are.point_lived place entry there) (are.point_made place entry there)

pub returns-clause-detectors : goal.returns-clause-detectors
returns-clause-detectors c site table outset events processes are place entry there =
    let life = detector_life site table outset events place in
    host_lived detector_kind (host_after detection_behaviour) life.came (processes.detector place) (detector_sensing site life.begins life.sensed entry) c.a_node_is_what_came_to_it-3.ensures c.controllers_are_those_of_a_world.ensures.detectors
    (are.detector_lived place entry there) (are.detector_made place entry there)
