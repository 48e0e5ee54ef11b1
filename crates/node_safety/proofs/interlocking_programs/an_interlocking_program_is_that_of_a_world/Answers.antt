use Rattle.simulator_node_laws.specs.Shown.{interlocking_life}
use Rattle.node_safety.proofs.ByCalls.{station_is}
use Rattle.node_safety.proofs.interlocking_programs.an_interlocking_program_is_that_of_a_world.Goals as goal

pub returns : goal.returns
returns c site table events is none = station_is c.calls_are_inputs.ensures.state site table (interlocking_life site table events) is none
