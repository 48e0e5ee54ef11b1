-- What a route writes that leads along a way, step by step.
use Rattle.std.specs.Prelude.{◌≡◌, ◌==◌, Bool, true, false, List, [], Option, Some, None, slice_get, map, if◌then◌else◌}
use Rattle.std.specs.List.{AllZip, list_any, filter_map}
use Rattle.control_table.specs.sci_telegram.declared.message.Aspect.{Aspect}
use Rattle.control_table.specs.sci_telegram.declared.message.Aspect.TheVariants.{Slow, Proceed}
use Rattle.control_table.specs.sci_telegram.declared.message.Side.{Side}
use Rattle.control_table.specs.sci_telegram.declared.message.Side.TheVariants as side
use Rattle.control_table.specs.layout.declared.ids.PointId.{PointId}
use Rattle.control_table.specs.layout.declared.port.Port.{Port}
use Rattle.control_table.specs.layout.Entries.{RouteEntry, Site}
use Rattle.control_table.specs.Path.{Passage}
use Rattle.route_derivation.specs.declared.slow.SlowLegs.{SlowLegs}
use Rattle.route_derivation.specs.declared.slow.SlowLegs.TheVariants as slow
use Rattle.route_derivation.specs.declared.rule.ApproachRule.{ApproachRule}
use Rattle.route_derivation.specs.Approach.{IsApproach}
use Rattle.route_derivation.specs.Ways.{Way}
use Rattle.route_derivation.specs.inside.WaySearch.{some_and, used, flank_at}

-- a passage leads over a point
abbrev pub is_over : PointId → Option (PointId × Side) → Bool
is_over p n = some_and (λ n. n.0.0 == p.0) n

unfoldable pub on_path : List Passage → PointId → Bool
on_path path p = list_any (λ g. is_over p (used g)) path

-- a need of which the point lies off a path
abbrev pub off_path : List Passage → Option (PointId × Side) → Option (PointId × Side)
off_path path None = None
off_path path (Some n) = if on_path path n.0 then None else Some n

unfoldable pub path_of : List Passage → List Port
path_of path = map (λ g. g.left) path

unfoldable pub points_of : List Passage → List (PointId × Side)
points_of path = filter_map (λ g. used g) path

unfoldable pub flank_of : Site → List Passage → List (PointId × Side)
flank_of l path = filter_map (λ g. off_path path (flank_at l (used g))) path

-- ---- aspects

abbrev pub is_slow_leg : Option SlowLegs → Side → Bool
is_slow_leg None s = false
is_slow_leg (Some slow.Neither) s = false
is_slow_leg (Some slow.Both) s = true
is_slow_leg (Some slow.Left) side.Left = true
is_slow_leg (Some slow.Left) side.Right = false
is_slow_leg (Some slow.Right) side.Left = false
is_slow_leg (Some slow.Right) side.Right = true

abbrev pub is_slow_at : List SlowLegs → PointId × Side → Bool
is_slow_at legs n = is_slow_leg (slice_get legs n.0.0) n.1

unfoldable pub aspect_of : List SlowLegs → List (PointId × Side) → Aspect
aspect_of legs points = if list_any (λ n. is_slow_at legs n) points then Slow else Proceed

-- ---- a route that leads along a way, whatever its name

pub record IsAlong (l : Site) (slow : List SlowLegs) (rule : ApproachRule) (w : Way) (r : RouteEntry) : Type 0 where
  pub entry : r.entry ≡ w.entry
  pub exit : r.exit ≡ w.exit
  pub path : r.path ≡ path_of w.passages
  pub points : r.points ≡ points_of w.passages
  pub flank : r.flank ≡ flank_of l w.passages
  pub extra : r.extra ≡ []
  pub aspect : r.aspect ≡ aspect_of slow r.points
  pub approach : IsApproach l rule r.entry r.approach

-- each route leads along the way at its place
abbrev pub AreAlong : Site → List SlowLegs → ApproachRule → List Way → List RouteEntry → Type 0
AreAlong l slow rule ws rs = AllZip (IsAlong l slow rule) ws rs
