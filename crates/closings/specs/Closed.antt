-- What is closed: by each thing, and as the list of all.
use Rattle.std.specs.Prelude.{ℕ, zero, suc, Bool, IsTrue, List, filter, length}
use Rattle.std.specs.FinSet.{contains, empty, insert, remove, union}
use Rattle.control_table.specs.bit_row.Places.{Places}
use Rattle.control_table.specs.layout.Entries.{Site}
use Rattle.control_table.specs.sci_telegram.declared.message.Side.TheVariants as side
use Rattle.closings.specs.declared.thing.Thing.{Thing}
use Rattle.closings.specs.declared.thing.Thing.TheVariants.{Point}
use Rattle.closings.specs.declared.thing.Kind.{Kind}
use Rattle.closings.specs.declared.thing.Kind.TheVariants as kind
use Rattle.closings.specs.declared.thing.Named.{Named}
use Rattle.closings.specs.declared.thing.Named.TheVariants.{One, BothSides}
use Rattle.closings.specs.declared.closed.Closings.{Closings}
use Rattle.closings.specs.Things.{all_things, kind_of, place_of}

-- The places of a kind that are closed.
abbrev pub row : Closings → Kind → Places
row c kind.Section = c.sections
row c kind.PointLeft = c.left
row c kind.PointRight = c.right
row c kind.Signal = c.signals
row c kind.Route = c.routes

-- Whether a thing is closed.
abbrev pub is_closed : Closings → Thing → Bool
is_closed c t = contains (row c (kind_of t)) (place_of t)

abbrev pub IsClosed : Closings → Thing → Type 0
IsClosed c t = IsTrue (is_closed c t)

-- Whatever is closed by the second is closed by the first.
abbrev pub Covers : Closings → Closings → Type 0
Covers c d = (t : Thing) → IsClosed d t → IsClosed c t

-- Nothing is closed.
abbrev pub nothing : Closings
nothing = record { sections = empty; right = empty; left = empty; signals = empty; routes = empty }

-- The first places.
unfoldable pub first_places : ℕ → Places
first_places zero = empty
first_places (suc count) = insert (first_places count) count

-- These sections are closed, and these points at both sides.
abbrev pub track : Places → Places → Closings
track sections points = record { sections = sections; right = points; left = points; signals = empty; routes = empty }

-- Every section is closed, and every point at both sides.
abbrev pub all_track : Site → Closings
all_track l = track (first_places (length l.sections)) (first_places (length l.points))

-- What either closes is closed.
abbrev pub either : Closings → Closings → Closings
either c d =
    record {
      sections = union c.sections d.sections;
      right = union c.right d.right;
      left = union c.left d.left;
      signals = union c.signals d.signals;
      routes = union c.routes d.routes;
    }

-- Other places of a kind are closed.
abbrev pub with_row : Closings → Kind → Places → Closings
with_row c kind.Section places = record c { sections = places }
with_row c kind.PointLeft places = record c { left = places }
with_row c kind.PointRight places = record c { right = places }
with_row c kind.Signal places = record c { signals = places }
with_row c kind.Route places = record c { routes = places }

-- One thing is closed too.
abbrev pub with_thing : Closings → Thing → Closings
with_thing c t = with_row c (kind_of t) (insert (row c (kind_of t)) (place_of t))

-- One thing is open.
abbrev pub without_thing : Closings → Thing → Closings
without_thing c t = with_row c (kind_of t) (remove (row c (kind_of t)) (place_of t))

-- What a command names is closed too.
abbrev pub with_named : Closings → Named → Closings
with_named c (One t) = with_thing c t
with_named c (BothSides p) = with_thing (with_thing c (Point p side.Left)) (Point p side.Right)

-- What a command names is open.
abbrev pub without_named : Closings → Named → Closings
without_named c (One t) = without_thing c t
without_named c (BothSides p) = without_thing (without_thing c (Point p side.Left)) (Point p side.Right)

-- All that is closed of a layout, in the order of its things.
abbrev pub closed_things : Site → Closings → List Thing
closed_things l c = filter (is_closed c) (all_things l)
