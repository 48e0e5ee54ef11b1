-- The things of a station, and which of them a command names.
use Rattle.std.specs.Prelude.{◌≡◌, ◌<◌, ℕ, List, ◌++◌, length, map}
use Rattle.std.specs.List.{range_with_len}
use Rattle.control_table.specs.bit_row.Places.{Has, Places}
use Rattle.control_table.specs.layout.Entries.{Site}
use Rattle.control_table.specs.layout.Station.{HasPoint, HasRoute, HasSection, HasSignal}
use Rattle.control_table.specs.sci_telegram.declared.message.Side.{Side}
use Rattle.control_table.specs.sci_telegram.declared.message.Side.TheVariants as side
use Rattle.closings.specs.declared.thing.Thing.{Thing}
use Rattle.closings.specs.declared.thing.Thing.TheVariants.{Section, Point, Signal, Route}
use Rattle.closings.specs.declared.thing.Kind.{Kind}
use Rattle.closings.specs.declared.thing.Kind.TheVariants as kind
use Rattle.closings.specs.declared.thing.Named.{Named}
use Rattle.closings.specs.declared.thing.Named.TheVariants.{One, BothSides}

-- The layout has a thing.
abbrev pub HasThing : Site → Thing → Type 0
HasThing l (Section s) = HasSection l s
HasThing l (Point p side) = HasPoint l p
HasThing l (Signal s) = HasSignal l s
HasThing l (Route r) = HasRoute l r

-- A thing is a section of the layout, or a point of it at some side.
abbrev pub IsTrack : Site → Thing → Type 0
IsTrack l (Section s) = HasSection l s
IsTrack l (Point p side) = HasPoint l p
IsTrack l (Signal s) = ⊥
IsTrack l (Route r) = ⊥

-- A thing is one of these sections, or one of these points at some side.
abbrev pub IsOfTrack : Places → Places → Thing → Type 0
IsOfTrack sections points (Section s) = Has sections s.0
IsOfTrack sections points (Point p side) = Has points p.0
IsOfTrack sections points (Signal s) = ⊥
IsOfTrack sections points (Route r) = ⊥

-- A command names a thing.
abbrev pub Names : Named → Thing → Type 0
Names (One t) u = u ≡ t
Names (BothSides p) u = (side : Side) × (u ≡ Point p side)

-- The layout has what a command names.
abbrev pub HasNamed : Site → Named → Type 0
HasNamed l (One t) = HasThing l t
HasNamed l (BothSides p) = HasPoint l p

-- ---- by kind and place

abbrev pub kind_of : Thing → Kind
kind_of (Section s) = kind.Section
kind_of (Point p side.Left) = kind.PointLeft
kind_of (Point p side.Right) = kind.PointRight
kind_of (Signal s) = kind.Signal
kind_of (Route r) = kind.Route

abbrev pub place_of : Thing → ℕ
place_of (Section s) = s.0
place_of (Point p side) = p.0
place_of (Signal s) = s.0
place_of (Route r) = r.0

abbrev pub thing_at : Kind → ℕ → Thing
thing_at kind.Section place = Section (record { 0 = place })
thing_at kind.PointLeft place = Point (record { 0 = place }) side.Left
thing_at kind.PointRight place = Point (record { 0 = place }) side.Right
thing_at kind.Signal place = Signal (record { 0 = place })
thing_at kind.Route place = Route (record { 0 = place })

-- The place of what a command names fits a row of bits.
abbrev pub IsPlaced : Named → Type 0
IsPlaced (One t) = place_of t < 64
IsPlaced (BothSides p) = p.0 < 64

-- The first things of a kind.
abbrev pub first_things : Kind → ℕ → List Thing
first_things kind count = map (thing_at kind) (range_with_len 0 count)

-- All things of a layout, kind by kind, each kind in layout order.
abbrev pub all_things : Site → List Thing
all_things l =
    first_things kind.Section (length l.sections)
    ++ (first_things kind.PointLeft (length l.points)
    ++ (first_things kind.PointRight (length l.points)
    ++ (first_things kind.Signal (length l.signals)
    ++ first_things kind.Route (length l.routes))))
