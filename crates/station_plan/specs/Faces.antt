-- How a plan draws what it draws: with which strokes, under which name, and as what it is seen.
use Rattle.std.specs.Prelude.{◌≡◌, ℕ, List, [], ◌∷◌, ◌++◌, codes, string_bytes, Bool, false, Option, Some, None, slice_get, if◌then◌else◌}
use Rattle.std.specs.List.{flat_map, position}
use Rattle.std.specs.Str.{bytes_eq}
use Rattle.control_table.specs.layout.Entries.{Site}
use Rattle.control_table.specs.layout.declared.ids.SectionId.{SectionId}
use Rattle.control_table.specs.layout.declared.entries.Track.{Track}
use Rattle.control_table.specs.layout.declared.entries.Point.{Point}
use Rattle.control_table.specs.sci_telegram.declared.message.Aspect.{Aspect}
use Rattle.control_table.specs.sci_telegram.declared.message.Aspect.TheVariants as aspect
use Rattle.control_table.specs.sci_telegram.declared.message.Occupancy.{Occupancy}
use Rattle.control_table.specs.sci_telegram.declared.message.Occupancy.TheVariants as occupancy
use Rattle.control_table.specs.sci_telegram.declared.message.Position.{Position}
use Rattle.control_table.specs.sci_telegram.declared.message.Position.TheVariants as lies
use Rattle.control_table.specs.sci_telegram.declared.message.Side.{Side}
use Rattle.control_table.specs.sci_telegram.declared.message.Side.TheVariants as side
use Rattle.station_plan.specs.declared.shown.Seen.{Seen}
use Rattle.station_plan.specs.declared.thing.Subject.{Subject}
use Rattle.station_plan.specs.declared.thing.Subject.TheVariants as subject
use Rattle.station_plan.specs.declared.thing.Thing.{Thing}
use Rattle.station_plan.specs.Strokes.{circle, line, polygon, strokes, written}

-- ---- strokes

-- A section has this name.
abbrev pub is_name : List ℕ → Option (List ℕ) → Bool
is_name name (Some other) = bytes_eq other name
is_name name None = false

abbrev pub is_named : Site → List ℕ → SectionId → Bool
is_named l name section = is_name name (slice_get l.sections section.0)

abbrev pub band : List ℕ
band = line (codes "band")

-- A section is a band along each of its tracks, and two along each of its points: one on its row, one on its other leg.
abbrev pub track_bands : Site → List ℕ → Track → List (List ℕ)
track_bands l name track = if is_named l name track.section then band ∷ [] else []

abbrev pub point_bands : Site → List ℕ → Point → List (List ℕ)
point_bands l name point = if is_named l name point.section then band ∷ band ∷ [] else []

abbrev pub section_strokes : Site → List ℕ → List (List ℕ)
section_strokes l name = flat_map (track_bands l name) l.tracks ++ flat_map (point_bands l name) l.points

-- A track, a point's tip and each of its legs is a rail.
abbrev pub rail : List (List ℕ)
rail = line (codes "rail") ∷ []

-- A border is an arrow on its rail.
abbrev pub border_strokes : List (List ℕ)
border_strokes = polygon (codes "arrow") ∷ line (codes "rail") ∷ []

-- A joint is a tick across the line.
abbrev pub tick : List (List ℕ)
tick = line (codes "joint") ∷ []

-- A signal is a foot, a mast and two lamps.
abbrev pub signal_strokes : List (List ℕ)
signal_strokes = line (codes "mast") ∷ line (codes "mast") ∷ circle (codes "lamp near") ∷ circle (codes "lamp distant") ∷ []

abbrev pub strokes_for : Site → Subject → List (List ℕ)
strokes_for l (subject.Section name) = section_strokes l name
strokes_for l (subject.Track name) = rail
strokes_for l (subject.Point name) = []
strokes_for l (subject.Tip name) = rail
strokes_for l (subject.Left name) = rail
strokes_for l (subject.Right name) = rail
strokes_for l (subject.Border name) = border_strokes
strokes_for l (subject.Joint name e) = tick
strokes_for l (subject.Signal name) = signal_strokes
strokes_for l (subject.Detector name) = band ∷ []

-- ---- names

-- Tracks, points, borders, signals and detection controllers are named where they are drawn.
abbrev pub words_for : Subject → List ℕ
words_for (subject.Section name) = []
words_for (subject.Track name) = name
words_for (subject.Point name) = name
words_for (subject.Tip name) = []
words_for (subject.Left name) = []
words_for (subject.Right name) = []
words_for (subject.Border name) = name
words_for (subject.Joint name e) = []
words_for (subject.Signal name) = name
words_for (subject.Detector name) = name

-- ---- what is seen

-- what is known at a place of a list, if anything is
abbrev pub entry : {A : Type 0} → Option (Option A) → Option A
entry None = None
entry (Some e) = e

abbrev pub known : {A : Type 0} → List (Option A) → Option ℕ → Option A
known list None = None
known list (Some place) = entry (slice_get list place)

abbrev pub aspect_seen : Site → Seen → List ℕ → Option Aspect
aspect_seen l seen name = known seen.aspects.items (position (λ s. bytes_eq s.name name) l.signals)

abbrev pub position_seen : Site → Seen → List ℕ → Option Position
position_seen l seen name = known seen.positions.items (position (λ p. bytes_eq p.name name) l.points)

abbrev pub occupancy_seen : Site → Seen → List ℕ → Option Occupancy
occupancy_seen l seen name = known seen.occupancies.items (position (λ s. bytes_eq s name) l.sections)

abbrev pub aspect_state : Option Aspect → List ℕ
aspect_state None = []
aspect_state (Some aspect.Stop) = codes " stop"
aspect_state (Some aspect.Proceed) = codes " proceed"
aspect_state (Some aspect.Slow) = codes " slow"

-- A point lies to a leg, or off it, or to neither.
abbrev pub leg_state : Option Position → Side → List ℕ
leg_state None s = []
leg_state (Some lies.Left) side.Left = codes " lies"
leg_state (Some lies.Left) side.Right = codes " off"
leg_state (Some lies.Right) side.Left = codes " off"
leg_state (Some lies.Right) side.Right = codes " lies"
leg_state (Some lies.NoEndPosition) s = codes " moving"

abbrev pub occupancy_state : Option Occupancy → List ℕ
occupancy_state None = codes " unknown"
occupancy_state (Some occupancy.Clear) = codes " clear"
occupancy_state (Some occupancy.Occupied) = codes " occupied"

abbrev pub signal_state : Site → Option Seen → List ℕ → List ℕ
signal_state l None name = []
signal_state l (Some seen) name = aspect_state (aspect_seen l seen name)

abbrev pub branch_state : Site → Option Seen → List ℕ → Side → List ℕ
branch_state l None name s = []
branch_state l (Some seen) name s = leg_state (position_seen l seen name) s

abbrev pub section_state : Site → Option Seen → List ℕ → List ℕ
section_state l None name = []
section_state l (Some seen) name = occupancy_state (occupancy_seen l seen name)

-- The words of a class for what is seen.
abbrev pub state_for : Site → Option Seen → Subject → List ℕ
state_for l seen (subject.Section name) = section_state l seen name
state_for l seen (subject.Track name) = []
state_for l seen (subject.Point name) = []
state_for l seen (subject.Tip name) = []
state_for l seen (subject.Left name) = branch_state l seen name side.Left
state_for l seen (subject.Right name) = branch_state l seen name side.Right
state_for l seen (subject.Border name) = []
state_for l seen (subject.Joint name e) = []
state_for l seen (subject.Signal name) = signal_state l seen name
state_for l seen (subject.Detector name) = []

-- ---- together

-- A thing is drawn as what it stands for: with its strokes, its name, and what is seen of it.
pub record IsDrawn (l : Site) (seen : Option Seen) (thing : Thing) : Type 0 where
  pub symbol : strokes thing.marks.items ≡ strokes_for l thing.subject
  pub name : written thing.marks.items ≡ words_for thing.subject
  pub state : string_bytes thing.state ≡ state_for l seen thing.subject

-- Each of these things is.
abbrev pub AreDrawn : Site → Option Seen → List Thing → Type 0
AreDrawn l seen [] = Unit {0}
AreDrawn l seen (thing ∷ things) = IsDrawn l seen thing × AreDrawn l seen things
