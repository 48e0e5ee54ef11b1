use Rattle.std.proofs.Common.{refl}
use Rattle.node_kinds.specs.Controllers.{detector_kind, point_kind, signal_kind}
use Rattle.node_kinds.specs.Openings.{Lamp, Motor, Sections}
use Rattle.node_kinds.specs.simulator_spec.object_host.Host.{keeping}
use Rattle.node_kinds.specs.simulator_spec.object_host.Hosted.{new_host}
use Rattle.node_kinds.specs.Processes.{detector_made, point_made, signal_made, told_nothing, told_position, told_sections}
use Rattle.node_safety.proofs.Recorded.{recorded, station_recorded}
use Rattle.node_safety.proofs.records.a_process_records_its_node.Goals as goal

pub returns-clause-station : goal.returns-clause-station
returns-clause-station c site kept counts first for_ms begins after old new runs = station_recorded c.what_is_sent_is_sent_in_time-2.ensures site kept counts first for_ms begins old new after runs

pub returns-clause-signals : goal.returns-clause-signals
unfolding new_host keeping
returns-clause-signals c site kept counts first for_ms begins place after old new runs entry there =
    recorded signal_kind site Lamp told_nothing (signal_made site first entry) for_ms begins old new (λ contacts now. refl) c.what_is_sent_is_sent_in_time.ensures c.what_is_sent_is_sent_in_time-3.ensures after (runs entry there)

pub returns-clause-points : goal.returns-clause-points
unfolding new_host keeping
returns-clause-points c site kept counts first for_ms begins place after old new runs entry there =
    recorded point_kind site Motor told_position (point_made site first entry) for_ms begins old new (λ contacts now. refl) c.what_is_sent_is_sent_in_time.ensures c.what_is_sent_is_sent_in_time-4.ensures after (runs entry there)

pub returns-clause-detectors : goal.returns-clause-detectors
returns-clause-detectors c site kept counts first for_ms begins place after old new runs entry there =
    recorded detector_kind site (Sections entry.sections) told_sections (detector_made site first entry) for_ms begins old new (λ contacts now. refl) c.what_is_sent_is_sent_in_time.ensures c.what_is_sent_is_sent_in_time-5.ensures after (runs entry there)
