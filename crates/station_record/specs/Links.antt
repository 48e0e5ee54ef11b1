-- How far the interlocking's links are.
use Rattle.std.specs.Prelude.{ℕ, Bool, if◌then◌else◌, slice_get}
use Rattle.replay.specs.ixl_spec.State.{IxlState, KnownDetectorState}
use Rattle.replay.specs.ixl_spec.Table.{passes}
use Rattle.replay.specs.ixl_spec.View.{is_detector_up, is_point_ready, is_point_up, is_signal_ready, is_signal_up}
use Rattle.replay.specs.ixl_spec.ixl_client.Client.{is_ready}
use Rattle.lane_chart.specs.declared.lane.Readiness.{Readiness}
use Rattle.lane_chart.specs.declared.lane.Readiness.TheVariants.{Down, Ready, Up}

-- how far a link is that is up or not, and ready or not
abbrev pub link_of : Bool → Bool → Readiness
link_of is_up is_ready = if is_ready then Ready else (if is_up then Up else Down)

abbrev pub signal_link : IxlState → ℕ → Readiness
signal_link ixl place = link_of (is_signal_up ixl place) (is_signal_ready ixl place)

abbrev pub point_link : IxlState → ℕ → Readiness
point_link ixl place = link_of (is_point_up ixl place) (is_point_ready ixl place)

-- the initialisation of a detector was completed in the present connection
abbrev pub is_detector_ready : IxlState → ℕ → Bool
is_detector_ready ixl place = passes (λ (known : KnownDetectorState). is_ready known.client.stage) (slice_get ixl.detectors place)

abbrev pub detector_link : IxlState → ℕ → Readiness
detector_link ixl place = link_of (is_detector_up ixl place) (is_detector_ready ixl place)
