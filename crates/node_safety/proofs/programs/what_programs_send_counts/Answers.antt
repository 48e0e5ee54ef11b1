use Rattle.node_kinds.specs.simulator_spec.point_ctl.Controlled.{point_behaviour}
use Rattle.node_kinds.specs.simulator_spec.signal_ctl.Signal.{signal_behaviour}
use Rattle.node_kinds.specs.simulator_spec.tds_ctl.Controlled.{detection_behaviour}
use Rattle.node_safety.proofs.ByCalls.{sent_is}
use Rattle.node_safety.proofs.programs.what_programs_send_counts.Goals as goal

pub returns : goal.returns
returns c = record {
  signals = λ host begun came is whole. sent_is signal_behaviour host begun came is whole c.what_leaves_counts.ensures;
  points = λ host begun came is whole. sent_is point_behaviour host begun came is whole c.what_leaves_counts-2.ensures;
  detectors = λ host begun came is whole. sent_is detection_behaviour host begun came is whole c.what_leaves_counts-3.ensures;
}
