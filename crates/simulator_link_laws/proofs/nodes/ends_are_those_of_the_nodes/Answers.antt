use Rattle.simulator_link_laws.proofs.Kept.{connection_end, known_signal_end, point_end, signal_end, known_point_end}
use Rattle.simulator_link_laws.proofs.nodes.ends_are_those_of_the_nodes.Goals as goal

pub returns : goal.returns
returns c = record {
  signal = λ site world network whole are place server is. signal_end site world network whole are place server is;
  point = λ site world network whole are place server is. point_end site world network whole are place server is;
  known_signal = λ site world network whole are place known_signal is. known_signal_end site world network whole are place known_signal is;
  known_point = λ site world network whole are place known_point is. known_point_end site world network whole are place known_point is;
  begun = λ site world network whole are link below. connection_end site world network whole are link below;
}
