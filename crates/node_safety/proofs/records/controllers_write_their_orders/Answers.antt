use Rattle.std.specs.Prelude.{None, Some}
use Rattle.node_kinds.specs.node_drive.node_lines.Reports.{report_said}
use Rattle.node_kinds.specs.node_drive.replay_words.Cut.{words}
use Rattle.node_kinds.specs.simulator_spec.point_ctl.Controlled.{point_behaviour}
use Rattle.node_kinds.specs.simulator_spec.point_ctl.Drive.{drive_of}
use Rattle.node_kinds.specs.simulator_spec.signal_ctl.Signal.{signal_behaviour}
use Rattle.node_kinds.specs.simulator_spec.tds_ctl.Controlled.{detection_behaviour}
use Rattle.node_kinds.specs.Controllers.{drive_order, lamp_order, position_after, sections_after, told_to_detector, told_to_point, told_to_signal}
use Rattle.node_safety.proofs.Written.{detector_silent, point_silent, signal_silent, writes_its_orders}
use Rattle.node_safety.proofs.records.controllers_write_their_orders.Goals as goal

pub returns : goal.returns
returns c = record {
  signals = writes_its_orders signal_behaviour (λ signal. Some (lamp_order signal.lamp)) (λ site text contacts. told_to_signal (report_said site (words text))) (λ input contacts. contacts)
      (λ site text contacts. signal_silent (report_said site (words text)));
  points = writes_its_orders point_behaviour (λ point. Some (drive_order (drive_of point))) (λ site text last. told_to_point last (report_said site (words text))) position_after
      (λ site text last. point_silent last (report_said site (words text)));
  detectors = writes_its_orders detection_behaviour (λ sections. None) (λ site text sections. told_to_detector sections.own sections.last (report_said site (words text))) sections_after
      (λ site text sections. detector_silent sections.own sections.last (report_said site (words text)));
}
