-- At which sides a path requires points: those on it, and those that guard its unused legs.
use Rattle.std.specs.Prelude.{◌==◌, ◌&&◌, ◌||◌, Bool, true, false, List, [], ◌∷◌, Option, Some, None, option_and_then, if◌then◌else◌}
use Rattle.std.specs.List.{list_any}
use Rattle.std.specs.Option.{option_map}
use Rattle.layout_text.specs.declared.entries.End.{End}
use Rattle.layout_text.specs.declared.entries.End.TheVariants as end
use Rattle.control_table.specs.sci_telegram.declared.message.Side.{Side}
use Rattle.control_table.specs.sci_telegram.declared.message.Side.TheVariants as side
use Rattle.control_table.specs.layout.declared.ids.PointId.{PointId}
use Rattle.control_table.specs.layout.declared.port.Port.{Port}
use Rattle.control_table.specs.layout.declared.port.Element.{Element}
use Rattle.control_table.specs.layout.declared.port.Element.TheVariants as element
use Rattle.control_table.specs.layout.Entries.{Site}
use Rattle.control_table.specs.layout.Known.{same_element}
use Rattle.control_table.specs.Sides.{leg, other}
use Rattle.station_layout.specs.Joints.{joined_to}

-- the side at which a point leads to its leg
abbrev pub side_of : End → Option Side
side_of end.Left = Some side.Left
side_of end.Right = Some side.Right
side_of _ = None

abbrev pub same_side : Side → Side → Bool
same_side side.Left side.Left = true
same_side side.Right side.Right = true
same_side _ _ = false

-- The side of the leg of a point that a train uses which enters it by one end and leaves it by another.
unfoldable pub side_used : End → End → Option Side
side_used entered end.Tip = side_of entered
side_used entered out = side_of out

abbrev pub used_over : End → End → Element → Option (PointId × Side)
used_over entered out (element.Point p) = option_map (λ s. (p, s)) (side_used entered out)
used_over entered out _ = None

-- What guards a leg to which a port is joined: the leg of another point, while that lies at its other side.
abbrev pub guard_by : End → Element → Option (PointId × Side)
guard_by e (element.Point q) = option_map (λ s. (q, other s)) (side_of e)
guard_by e _ = None

unfoldable pub guard : Port → Port → Option (PointId × Side)
guard leg from = if same_element from.element leg.element then None else guard_by from.end from.element

-- a point at a side is the one that is wanted
abbrev pub is_need : PointId → Side → Option (PointId × Side) → Bool
is_need p s None = false
is_need p s (Some need) = (need.0.0 == p.0) && same_side need.1 s

-- a point lies on a path
unfoldable pub is_on_path : List Port → PointId → Bool
is_on_path path p = list_any (λ left. same_element left.element (element.Point p)) path

module _ (l : Site) where
  -- the point that a path uses behind a port, with the side of its leg
  unfoldable pub used_behind : Port → Port → Option (PointId × Side)
  used_behind before left = option_and_then (λ entered. used_over entered.end left.end left.element) (joined_to l.joints before)

  -- the leg of this point that the path doesn't use, and what is joined to it
  abbrev pub unused_of : PointId × Side → Option (Port × Port)
  unused_of used = option_map (λ from. (leg used.0 (other used.1), from)) (joined_to l.joints (leg used.0 (other used.1)))

  unfoldable pub unused_leg : Port → Port → Option (Port × Port)
  unused_leg before left = option_and_then unused_of (used_behind before left)

  -- what guards this leg
  unfoldable pub guard_behind : Port → Port → Option (PointId × Side)
  guard_behind before left = option_and_then (λ unused. guard unused.0 unused.1) (unused_leg before left)

  -- a path requires a point at a side, from a port on
  unfoldable pub requires_at : PointId → Side → Port → Port → Bool
  requires_at p s before left = is_need p s (used_behind before left) || is_need p s (guard_behind before left)

  unfoldable pub requires_on : PointId → Side → Port → List Port → Bool
  requires_on p s before [] = false
  requires_on p s before (left ∷ path) = requires_at p s before left || requires_on p s left path
