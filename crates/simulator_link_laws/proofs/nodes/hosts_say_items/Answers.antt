use Rattle.simulator_spec.specs.point_ctl.Controlled.{point_behaviour}
use Rattle.simulator_spec.specs.rasta_core.Ends.{reading_of}
use Rattle.simulator_spec.specs.signal_ctl.Signal.{signal_behaviour}
use Rattle.simulator_link_laws.proofs.HostItems.{step_is_sound}
use Rattle.simulator_link_laws.proofs.ToldOfThemselves.{AnyPoint, AnySignal, points_tell, signals_tell}
use Rattle.simulator_link_laws.proofs.nodes.hosts_say_items.Goals as goal

pub returns : goal.returns
returns c = record {
  signal = λ site world whole place server is input.
      (step_is_sound signal_behaviour AnySignal signals_tell c.written_is_read.ensures.item (reading_of server.clock) input server.host (record { named = whole.signals_named place server is; good = tt })).items;
  point = λ site world whole place server is input.
      (step_is_sound point_behaviour AnyPoint points_tell c.written_is_read.ensures.item (reading_of server.clock) input server.host (record { named = whole.points_named place server is; good = tt })).items;
}
