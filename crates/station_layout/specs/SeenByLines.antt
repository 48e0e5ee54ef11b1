-- What is seen of a station by the lines of a picture: of each thing what the last line on it says, and nothing of a thing
-- without a line.
use Rattle.std.specs.Prelude.{◌≡◌, ℕ, Bool, false, if◌then◌else◌, nat_lt, List, length, replicate, Option, Some, None, Ok, slice_set}
use Rattle.std.specs.List.{fold}
use Rattle.control_table.specs.layout.Entries.{Site}
use Rattle.control_table.specs.sci_telegram.declared.message.Aspect.{Aspect}
use Rattle.control_table.specs.sci_telegram.declared.message.Occupancy.{Occupancy}
use Rattle.control_table.specs.sci_telegram.declared.message.Position.{Position}
use Rattle.station_plan.specs.declared.shown.Seen.{Seen}
use Rattle.station_layout.specs.declared.sighting.Sighting.{Sighting}
use Rattle.station_layout.specs.declared.sighting.Sighting.TheVariants as sighting
use Rattle.station_layout.specs.Sightings.{sightings}

-- a list with another value at a place, if it has the place
unfoldable pub put : {A : Type 0} → List A → ℕ → A → List A
put list place value = if nat_lt place (length list) then slice_set list place value else list

-- ---- one more line

unfoldable pub with_aspect : List (Option Aspect) → Sighting → List (Option Aspect)
with_aspect list (sighting.Signal signal aspect) = put list signal.0 (Some aspect)
with_aspect list _ = list

unfoldable pub with_position : List (Option Position) → Sighting → List (Option Position)
with_position list (sighting.Point point position) = put list point.0 (Some position)
with_position list _ = list

unfoldable pub with_occupancy : List (Option Occupancy) → Sighting → List (Option Occupancy)
with_occupancy list (sighting.Section section occupancy) = put list section.0 (Some occupancy)
with_occupancy list _ = list

unfoldable pub with_set : List Bool → Sighting → List Bool
with_set list (sighting.Route route set) = put list route.0 set
with_set list _ = list

-- ---- all lines

pub record IsSeenBy (l : Site) (said : List Sighting) (seen : Seen) : Type 0 where
  pub aspects : seen.aspects.items ≡ fold with_aspect (replicate (length l.signals) None) said
  pub positions : seen.positions.items ≡ fold with_position (replicate (length l.points) None) said
  pub occupancies : seen.occupancies.items ≡ fold with_occupancy (replicate (length l.sections) None) said
  pub set : seen.set.items ≡ fold with_set (replicate (length l.routes) false) said

-- The lines of a picture say this, where one is given.
abbrev pub AreSaid : Site → Option (List ℕ) → Option (List Sighting) → Type 0
AreSaid l None None = Unit {0}
AreSaid l None (Some said) = ⊥
AreSaid l (Some text) None = ⊥
AreSaid l (Some text) (Some said) = sightings l text ≡ Ok said

-- This is seen by what lines say, if they are given.
abbrev pub IsSeenOf : Site → Option (List Sighting) → Option Seen → Type 0
IsSeenOf l None None = Unit {0}
IsSeenOf l None (Some seen) = ⊥
IsSeenOf l (Some said) None = ⊥
IsSeenOf l (Some said) (Some seen) = IsSeenBy l said seen

-- This is seen by a picture, if one is given.
abbrev pub IsSeenIn : Site → Option (List ℕ) → Option Seen → Type 0
IsSeenIn l text seen = (said : Option (List Sighting)) × AreSaid l text said × IsSeenOf l said seen
