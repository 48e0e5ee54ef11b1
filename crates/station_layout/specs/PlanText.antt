-- What `station plan FILE` writes, and why it writes no plan.
use Rattle.std.specs.Prelude.{◌≡◌, ℕ, List, Option, Some, None, Ok, Err, IsOk}
use Rattle.std.specs.Io.KnownBytes.{Appends}
use Rattle.control_table.specs.layout.Entries.{Site}
use Rattle.control_table.specs.layout.declared.ids.RouteId.{RouteId}
use Rattle.drawing.specs.Svg.{svg_text}
use Rattle.drawing.specs.declared.picture.Picture.{Picture}
use Rattle.replay_lines.specs.Text.{FailsAt}
use Rattle.replay_lines.specs.declared.text.SessionFault.{SessionFault}
use Rattle.replay_words.specs.declared.fault.Fault.TheVariants.{Name}
use Rattle.station_check.specs.Failures.{ExplainsTable}
use Rattle.station_check.specs.Report.{IsSound}
use Rattle.station_check.specs.declared.failure.Failure.{Failure}
use Rattle.station_check.specs.declared.failure.Failure.TheVariants.{Route, Picture as Faulty, OutOfMemory, NotWritten}
use Rattle.station_plan.specs.Plan.{IsPlanOf}
use Rattle.station_plan.specs.declared.shown.Seen.{Seen}
use Rattle.station_layout.specs.NamedEntries.{route_called}
use Rattle.station_layout.specs.SeenByLines.{IsSeenIn}
use Rattle.station_layout.specs.Sightings.{sightings}

-- ---- the route that is asked for

-- Where a name is given, this is the route of that name.
abbrev pub IsAsked : Site → Option (List ℕ) → Option RouteId → Type 0
IsAsked l None None = Unit {0}
IsAsked l None (Some route) = ⊥
IsAsked l (Some name) None = ⊥
IsAsked l (Some name) (Some route) = route_called l name ≡ Ok route

-- A name is given that no route has.
abbrev pub IsNoRoute : Site → Option (List ℕ) → Type 0
IsNoRoute l None = ⊥
IsNoRoute l (Some name) = route_called l name ≡ Err Name

-- ---- the picture that is given

-- Where a picture is given, each of its lines says something.
abbrev pub IsReadable : Site → Option (List ℕ) → Type 0
IsReadable l None = Unit {0}
IsReadable l (Some text) = IsOk (sightings l text)

-- A picture is given of which this is the first fault; where memory was lacking that is told instead.
abbrev pub IsFaultyAt : Site → Option (List ℕ) → SessionFault → Type 0
IsFaultyAt l None fault = ⊥
IsFaultyAt l (Some text) fault = FailsAt fault.line fault.number (sightings l text)

-- ---- the plan

-- A plan can be drawn: the layout is sound, the name is that of a route, if there is one, and the picture can be read, if
-- there is one.
pub record CanPlan (layout : List ℕ) (name seen : Option (List ℕ)) : Type 0 where
  pub site : Site
  pub sound : IsSound layout site
  pub route : Option RouteId
  pub asked : IsAsked site name route
  pub readable : IsReadable site seen

-- A text is the SVG text of a plan of a layout, which shows this, if anything is seen.
abbrev pub IsPlanText : Site → Option Seen → List ℕ → Type 0
IsPlanText l seen text = (picture : Picture) × IsPlanOf l seen picture × (text ≡ svg_text picture)

-- It is one of the layout that is given, and shows what the picture says, if one is given.
pub record IsDrawn (layout : List ℕ) (name picture : Option (List ℕ)) (text : List ℕ) : Type 0 where
  pub can : CanPlan layout name picture
  pub seen : Option Seen
  pub seen_in : IsSeenIn can.site picture seen
  pub drawn : IsPlanText can.site seen text

-- Such a text was written.
abbrev pub IsPlanned : List ℕ → Option (List ℕ) → Option (List ℕ) → Option (List ℕ) → Option (List ℕ) → Type 0
IsPlanned layout name seen before now = (text : List ℕ) × IsDrawn layout name seen text × Appends before now text

-- ---- why there is none

-- A name is given that no route of the sound layout has.
abbrev pub AsksNothing : List ℕ → Option (List ℕ) → Type 0
AsksNothing layout name = (site : Site) × IsSound layout site × IsNoRoute site name

-- A picture is given of which a line says nothing, where the layout is sound and has the route.
abbrev pub ShowsNothing : List ℕ → Option (List ℕ) → Option (List ℕ) → SessionFault → Type 0
ShowsNothing layout name seen fault =
    (site : Site) × IsSound layout site × (route : Option RouteId) × IsAsked site name route × IsFaultyAt site seen fault

-- Why no plan is drawn: the layout's text is none, or its table isn't sound; or no route has the name; or a line of the
-- picture is faulty, the first; or neither, but memory is lacking.
abbrev pub ExplainsDrawn : List ℕ → Option (List ℕ) → Option (List ℕ) → Failure → Type 0
ExplainsDrawn layout name seen Route = AsksNothing layout name
ExplainsDrawn layout name seen (Faulty fault) = ShowsNothing layout name seen fault
ExplainsDrawn layout name seen OutOfMemory = CanPlan layout name seen
ExplainsDrawn layout name seen why = ExplainsTable layout why

-- Why no plan is written: none is drawn, or it couldn't be written.
abbrev pub Explains : List ℕ → Option (List ℕ) → Option (List ℕ) → Failure → Type 0
Explains layout name seen NotWritten = CanPlan layout name seen
Explains layout name seen why = ExplainsDrawn layout name seen why
