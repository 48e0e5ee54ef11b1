use Rattle.std.proofs.Common.{refl}
use Rattle.node_kinds.specs.Controllers.{detector_kind, point_kind, signal_kind}
use Rattle.node_kinds.specs.Openings.{Lamp, Motor, Sections}
use Rattle.node_kinds.specs.simulator_spec.object_host.Host.{keeping}
use Rattle.node_kinds.specs.simulator_spec.object_host.Hosted.{new_host}
use Rattle.node_kinds.specs.Processes.{detector_made, point_made, signal_made, told_nothing, told_position, told_sections}
use Rattle.node_safety.proofs.Recorded.{recorded_before, station_recorded_before}
use Rattle.node_safety.proofs.records.a_process_that_is_cut_off_records_its_node.Goals as goal

pub returns-clause-station : goal.returns-clause-station
returns-clause-station c site kept counts first for_ms begins old new stopped = station_recorded_before c.what_is_sent_is_sent_in_time-2.ensures site kept counts first for_ms begins old new stopped

pub returns-clause-signals : goal.returns-clause-signals
unfolding new_host keeping
returns-clause-signals c site kept counts first for_ms begins place old new stopped entry there =
    recorded_before signal_kind site Lamp told_nothing (signal_made site first entry) for_ms begins old new (λ contacts now. refl) c.what_is_sent_is_sent_in_time.ensures c.what_is_sent_is_sent_in_time-3.ensures (stopped entry there)

pub returns-clause-points : goal.returns-clause-points
unfolding new_host keeping
returns-clause-points c site kept counts first for_ms begins place old new stopped entry there =
    recorded_before point_kind site Motor told_position (point_made site first entry) for_ms begins old new (λ contacts now. refl) c.what_is_sent_is_sent_in_time.ensures c.what_is_sent_is_sent_in_time-4.ensures (stopped entry there)

pub returns-clause-detectors : goal.returns-clause-detectors
returns-clause-detectors c site kept counts first for_ms begins place old new stopped entry there =
    recorded_before detector_kind site (Sections entry.sections) told_sections (detector_made site first entry) for_ms begins old new (λ contacts now. refl) c.what_is_sent_is_sent_in_time.ensures c.what_is_sent_is_sent_in_time-5.ensures (stopped entry there)
