-- How it is found what hinders a way.
use Rattle.std.specs.Prelude.{◌==◌, List, [], ◌∷◌, ◌++◌, Option, Some, None, if◌then◌else◌}
use Rattle.std.specs.Option.{option_map, option_or}
use Rattle.std.specs.List.{filter_map}
use Rattle.control_table.specs.sci_telegram.declared.message.Side.{Side}
use Rattle.control_table.specs.sci_telegram.declared.message.Side.TheVariants as side
use Rattle.control_table.specs.layout.declared.ids.PointId.{PointId}
use Rattle.control_table.specs.layout.Entries.{Site}
use Rattle.control_table.specs.Sides.{leg, other}
use Rattle.route_derivation.specs.declared.impossible.Hindrance.{Hindrance}
use Rattle.route_derivation.specs.declared.impossible.Hindrance.TheVariants as hindrance
use Rattle.route_derivation.specs.declared.impossible.ImpossibleWay.{ImpossibleWay}
use Rattle.route_derivation.specs.Ways.{Way}
use Rattle.route_derivation.specs.inside.WaySearch.{joined_to, protection_of, is_open_leg, flank_at}
use Rattle.route_derivation.specs.inside.RouteParts.{points_of}

abbrev pub Need : Type 0
Need = PointId × Side

-- the other leg of a point that is passed at a side, where it is open
unfoldable pub open_leg : Site → Need → Option Hindrance
open_leg l n =
    if is_open_leg (protection_of l n.0 n.1)
    then option_map (λ from. hindrance.OpenLeg n.0 (other n.1) from) (joined_to l.joints (leg n.0 (other n.1)))
    else None

-- the first open leg of some points
abbrev pub first_open : Site → List Need → Option Hindrance
first_open l [] = None
first_open l (n ∷ ns) = option_or (open_leg l n) (first_open l ns)

-- what two points that are passed ask for, where it is one point left and right
abbrev pub opposite : Option Need → Option Need → Need → Need → Option Hindrance
opposite (Some (q, side.Left)) (Some (r, side.Right)) a b = if q.0 == r.0 then Some (hindrance.BothSides q a b) else None
opposite _ _ a b = None

-- a point that two points ask for left and right: themselves, or what guards them
unfoldable pub both_sides : Site → Need → Need → Option Hindrance
both_sides l a b =
    option_or (opposite (Some a) (Some b) a b)
    (option_or (opposite (Some a) (flank_at l (Some b)) a b)
    (option_or (opposite (flank_at l (Some a)) (Some b) a b) (opposite (flank_at l (Some a)) (flank_at l (Some b)) a b)))

-- the first of some points that asks for the other side of what a point asks for
abbrev pub first_against : Site → Need → List Need → Option Hindrance
first_against l a [] = None
first_against l a (b ∷ bs) = option_or (both_sides l a b) (first_against l a bs)

-- the first of some points of which one of all asks for the other side
abbrev pub first_both : Site → List Need → List Need → Option Hindrance
first_both l all [] = None
first_both l all (a ∷ rest) = option_or (first_against l a all) (first_both l all rest)

-- what hinders a way that passes these points
abbrev pub hindrance_at : Site → List Need → Option Hindrance
hindrance_at l ns = option_or (first_open l ns) (first_both l ns ns)

-- what is told of a way, if something hinders it
abbrev pub told : Way → Hindrance → ImpossibleWay
told w h = record { entry = w.entry; exit = w.exit; hindrance = h }

abbrev pub told_of : Site → Way → Option ImpossibleWay
told_of l w = option_map (told w) (hindrance_at l (points_of w.passages))

abbrev pub with_told : List ImpossibleWay → Option ImpossibleWay → List ImpossibleWay
with_told is None = is
with_told is (Some i) = is ++ i ∷ []

unfoldable pub all_told : Site → List Way → List ImpossibleWay
all_told l ws = filter_map (told_of l) ws
