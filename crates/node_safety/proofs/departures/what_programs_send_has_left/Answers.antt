use Rattle.std.proofs.Common.{Option, refl, ap}
use Rattle.node_kinds.specs.simulator_spec.First.{new_point, new_signal}
use Rattle.node_kinds.specs.simulator_spec.layout.Entries.{DetectorEntry}
use Rattle.node_kinds.specs.simulator_spec.layout.declared.entries.Point.{Point as PointEntry}
use Rattle.node_kinds.specs.simulator_spec.layout.declared.entries.Signal.{Signal as SignalEntry}
use Rattle.node_kinds.specs.simulator_spec.point_ctl.Controlled.{point_behaviour}
use Rattle.node_kinds.specs.simulator_spec.signal_ctl.Signal.{signal_behaviour}
use Rattle.node_kinds.specs.simulator_spec.tds_ctl.Controlled.{detection_behaviour}
use Rattle.simulator_node_laws.specs.Lives.{detector_at, detector_sensing, first_life, point_at, position_in, sections_in, signal_at}
use Rattle.simulator_node_laws.specs.Said.{detector_life, says}
use Rattle.simulator_node_laws.specs.Shown.{point_life, signal_life}
use Rattle.simulator_node_laws.specs.Told.{ToDetector, ToPoint, ToSignal}
use Rattle.node_safety.proofs.Departs.{departs, heard_detector, heard_point, heard_signal}
use Rattle.node_safety.proofs.departures.what_programs_send_has_left.Goals as goal

pub returns : goal.returns
returns c = record {
  signals = λ site table outset events place entry there now datagram.
      departs site table outset signal_behaviour (λ (entry : SignalEntry) begins sensed. new_signal site begins entry) entry (signal_at place) refl (first_life tt) refl (ToSignal place) (heard_signal place)
      (λ before input. ap (λ (found : Option SignalEntry). says signal_behaviour (λ (entry : SignalEntry) begins sensed. new_signal site begins entry) input (signal_life site table before place) found) there)
      (λ before input. refl) events now datagram;
  points = λ site table outset events place entry there now datagram.
      departs site table outset point_behaviour (λ (entry : PointEntry) begins position. new_point site begins position entry) entry (point_at site place) refl (first_life (position_in outset place)) refl (ToPoint place) (heard_point place)
      (λ before input. ap (λ (found : Option PointEntry). says point_behaviour (λ (entry : PointEntry) begins position. new_point site begins position entry) input (point_life site table outset before place) found) there)
      (λ before input. refl) events now datagram;
  detectors = λ site table outset events place entry there now datagram.
      departs site table outset detection_behaviour (λ (entry : DetectorEntry) begins sensed. detector_sensing site begins sensed entry) entry (detector_at site place) refl (first_life (sections_in site outset place)) refl (ToDetector place) (heard_detector place)
      (λ before input. ap (λ (found : Option DetectorEntry). says detection_behaviour (λ (entry : DetectorEntry) begins sensed. detector_sensing site begins sensed entry) input (detector_life site table outset before place) found) there)
      (λ before input. refl) events now datagram;
}
