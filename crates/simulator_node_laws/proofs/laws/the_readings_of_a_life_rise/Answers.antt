use Rattle.simulator_node_laws.specs.Lives.{detector_at, point_at, signal_at, the_interlocking}
use Rattle.simulator_node_laws.proofs.Readings.{life_rises}
use Rattle.simulator_node_laws.proofs.laws.the_readings_of_a_life_rise.Goals as goal

pub returns : goal.returns
returns c = record {
  station = λ site table events. life_rises site table the_interlocking events tt;
  signals = λ site table events place. life_rises site table (signal_at place) events tt;
  points = λ site table events place stands. life_rises site table (point_at site place) events stands;
  detectors = λ site table events place occupied. life_rises site table (detector_at site place) events occupied;
}
