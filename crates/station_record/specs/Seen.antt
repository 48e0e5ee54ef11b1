-- What is seen of each lane in a world.
use Rattle.std.specs.Prelude.{◌==◌, ℕ, nat_lt, if◌then◌else◌, List, length, find, Option, None, slice_get}
use Rattle.std.specs.Option.{option_map}
use Rattle.replay.specs.ixl_spec.State.{RouteState}
use Rattle.replay.specs.ixl_spec.declared.phase.Phase.{Phase}
use Rattle.replay.specs.ixl_spec.declared.phase.Phase.TheVariants as phase
use Rattle.replay.specs.layout.declared.ids.RouteId.{RouteId}
use Rattle.replay.specs.sci_telegram.declared.message.Aspect.{Aspect}
use Rattle.replay.specs.sci_telegram.declared.message.Occupancy.{Occupancy}
use Rattle.replay.specs.sci_telegram.declared.message.Position.{Position}
use Rattle.replay.specs.simulator.simulator_event.declared.snapshot.Held.{Held}
use Rattle.replay.specs.simulator_spec.Interlocking.{held_of}
use Rattle.replay.specs.simulator_spec.Seen.{shown_by}
use Rattle.replay.specs.simulator_spec.Tried.{Played, driven}
use Rattle.lane_chart.specs.declared.lane.Lane.{Lane}
use Rattle.lane_chart.specs.declared.lane.Kind.{Kind}
use Rattle.lane_chart.specs.declared.lane.Kind.TheVariants as kind
use Rattle.lane_chart.specs.declared.lane.Progress.{Progress}
use Rattle.lane_chart.specs.declared.lane.Progress.TheVariants as progress
use Rattle.lane_chart.specs.declared.lane.Seen.{Seen}
use Rattle.lane_chart.specs.declared.lane.Seen.TheVariants as seen
use Rattle.station_record.specs.Links.{detector_link, point_link, signal_link}

-- ---- the field

-- what a signal shows
abbrev pub aspect_at : Played → ℕ → Option Aspect
aspect_at world place =
    if nat_lt place (length world.sited.site.signals) then option_map shown_by (slice_get world.run.signals place) else None

-- where a point stands
abbrev pub position_at : Played → ℕ → Option Position
position_at world place = if nat_lt place (length world.sited.site.points) then slice_get world.run.positions place else None

-- whether a section is occupied
abbrev pub occupancy_at : Played → ℕ → Option Occupancy
occupancy_at world place = if nat_lt place (length world.sited.site.sections) then slice_get world.run.occupancies place else None

-- ---- the interlocking

-- the route of the first pair that is held for a signal
abbrev pub held_for : ℕ → List Held → Option RouteId
held_for place held = option_map (λ (pair : Held). pair.route) (find (λ (pair : Held). pair.signal.0 == place) held)

abbrev pub progress_of : Phase → Progress
progress_of phase.Free = progress.Free
progress_of phase.Waiting = progress.Waiting
progress_of phase.Proceeding = progress.Proceeding
progress_of phase.Withdrawn = progress.Withdrawn
progress_of (phase.Ended clock freed) = progress.Ended freed

-- how far a route is
abbrev pub progress_at : Played → ℕ → Option Progress
progress_at world place = option_map (λ (kept : RouteState). progress_of kept.phase) (slice_get world.run.interlocking.ixl.routes place)

-- ---- a lane

abbrev pub seen_of : Played → ℕ → Kind → Seen
seen_of world place kind.Aspect = seen.Aspect (aspect_at world place)
seen_of world place kind.Authority = seen.Authority (held_for place (held_of world.sited.table world.run.interlocking world.run.frozen))
seen_of world place kind.Position = seen.Position (position_at world place)
seen_of world place kind.Drive = seen.Drive (driven world (record { 0 = place }))
seen_of world place kind.Section = seen.Section (occupancy_at world place)
seen_of world place kind.Route = seen.Route (progress_at world place)
seen_of world place kind.SignalLink = seen.Link (signal_link world.run.interlocking.ixl place)
seen_of world place kind.PointLink = seen.Link (point_link world.run.interlocking.ixl place)
seen_of world place kind.DetectorLink = seen.Link (detector_link world.run.interlocking.ixl place)

abbrev pub seen_at : Played → Lane → Seen
seen_at world lane = seen_of world lane.place lane.kind
