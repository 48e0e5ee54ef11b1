-- What is wrong with the points that a route writes, or has to write: the first one that fails the test of its fault.
use Rattle.std.specs.Prelude.{ℕ, ◌||◌, not, List, Option, Some, None, option_and_then, if◌then◌else◌}
use Rattle.std.specs.Option.{option_map, option_or}
use Rattle.control_table.specs.sci_telegram.declared.message.Side.{Side}
use Rattle.control_table.specs.layout.declared.ids.PointId.{PointId}
use Rattle.control_table.specs.layout.declared.port.Port.{Port}
use Rattle.control_table.specs.layout.Entries.{RouteEntry, Site}
use Rattle.control_table.specs.Sides.{other}
use Rattle.station_layout.specs.LayoutNames.{leg_names, point_name}
use Rattle.station_layout.specs.RouteSides.{guard, guard_behind, is_on_path, requires_on, unused_leg, used_behind}
use Rattle.station_layout.specs.RouteStart.{is_written, start_of}
use Rattle.station_layout.specs.Search.{first_of, first_step}
use Rattle.station_layout.specs.declared.detail.PathDetail.{PathDetail}
use Rattle.station_layout.specs.declared.detail.PathDetail.TheVariants.{FlankLacks}
use Rattle.station_layout.specs.declared.detail.PointDetail.{PointDetail}
use Rattle.station_layout.specs.declared.detail.PointDetail.TheVariants.{BothSides, FlankAt, OffPath, OnPath, PointAt}

module _ (l : Site) where
  -- ---- a point that is written wrongly

  -- Under `points` stand points of the path, at the side at which they are required.
  abbrev pub wrong_point_of : Port → List Port → PointId × Side → List ℕ → Option PointDetail
  wrong_point_of start path written name =
      if not (is_on_path path written.0) then Some (OffPath name)
      else (if requires_on l written.0 written.1 start path then None else Some (PointAt name written.1))

  unfoldable pub wrong_point : Port → List Port → PointId × Side → Option PointDetail
  wrong_point start path written = option_and_then (wrong_point_of start path written) (point_name l written.0)

  -- Under `flank` stand other points, at the side at which they are required.
  abbrev pub wrong_flank_of : Port → List Port → PointId × Side → List ℕ → Option PointDetail
  wrong_flank_of start path written name =
      if is_on_path path written.0 then Some (OnPath name)
      else (if requires_on l written.0 written.1 start path then None else Some (FlankAt name written.1))

  unfoldable pub wrong_flank : Port → List Port → PointId × Side → Option PointDetail
  wrong_flank start path written = option_and_then (wrong_flank_of start path written) (point_name l written.0)

  abbrev pub wrong_from : RouteEntry → Port → Option PointDetail
  wrong_from r start =
      option_or (first_of (wrong_point start r.path) r.points) (first_of (wrong_flank start r.path) r.flank)

  unfoldable pub wrong_detail : RouteEntry → Option PointDetail
  wrong_detail r = option_and_then (wrong_from r) (start_of l r)

  -- ---- a point that isn't written under `flank`

  abbrev pub lacking_for : RouteEntry → Port × Port → PointId × Side → Option PathDetail
  lacking_for r unused need =
      if is_on_path r.path need.0 || is_written r.flank need.0 then None
      else option_map (λ names. FlankLacks names.0 names.1 need.1) (leg_names l unused.0 unused.1)

  unfoldable pub lacking_at : RouteEntry → Port → Port → Option PathDetail
  lacking_at r before left = option_and_then (λ unused. option_and_then (lacking_for r unused) (guard unused.0 unused.1)) (unused_leg l before left)

  unfoldable pub lacking_detail : RouteEntry → Option PathDetail
  lacking_detail r = option_and_then (λ start. first_step (λ before left. lacking_at r before left) start r.path) (start_of l r)

  -- ---- a point that is required at both sides

  abbrev pub contrary_to : Port → List Port → PointId × Side → Option PointDetail
  contrary_to start path need = if not (requires_on l need.0 (other need.1) start path) then None else option_map BothSides (point_name l need.0)

  unfoldable pub contrary : Port → List Port → Option (PointId × Side) → Option PointDetail
  contrary start path need = option_and_then (contrary_to start path) need

  unfoldable pub contrary_at : Port → List Port → Port → Port → Option PointDetail
  contrary_at start path before left = option_or (contrary start path (used_behind l before left)) (contrary start path (guard_behind l before left))

  unfoldable pub contrary_detail : RouteEntry → Option PointDetail
  contrary_detail r = option_and_then (λ start. first_step (contrary_at start r.path) start r.path) (start_of l r)
