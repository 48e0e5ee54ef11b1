-- The plan of one layout, and why there is none.
use Rattle.std.specs.Prelude.{ℕ, List, Option}
use Rattle.control_table.specs.layout.Entries.{Site}
use Rattle.control_table.specs.layout.declared.ids.RouteId.{RouteId}
use Rattle.station_check.specs.declared.failure.Failure.{Failure}
use Rattle.station_check.specs.declared.failure.Failure.TheVariants.{Route, Picture, OutOfMemory}
use Rattle.station_plan.specs.declared.shown.Seen.{Seen}
use Rattle.station_layout.specs.PlanText.{IsAsked, IsFaultyAt, IsNoRoute, IsPlanText, IsReadable}
use Rattle.station_layout.specs.SeenByLines.{IsSeenIn}

-- the route that is asked for is there, and the picture can be read
pub record IsAnswered (l : Site) (name picture : Option (List ℕ)) : Type 0 where
  pub route : Option RouteId
  pub asked : IsAsked l name route
  pub readable : IsReadable l picture

-- a text is that of a plan which shows what the picture says
pub record IsDrawnOf (l : Site) (name picture : Option (List ℕ)) (text : List ℕ) : Type 0 where
  pub answered : IsAnswered l name picture
  pub seen : Option Seen
  pub seen_in : IsSeenIn l picture seen
  pub drawn : IsPlanText l seen text

-- No route has the name; or a line of the picture is faulty, the first; or neither, but memory is lacking.
abbrev pub ExplainsDrawnOf : Site → Option (List ℕ) → Option (List ℕ) → Failure → Type 0
ExplainsDrawnOf l name picture Route = IsNoRoute l name
ExplainsDrawnOf l name picture (Picture fault) = (route : Option RouteId) × IsAsked l name route × IsFaultyAt l picture fault
ExplainsDrawnOf l name picture OutOfMemory = IsAnswered l name picture
ExplainsDrawnOf l name picture why = ⊥

-- why nothing is seen by a picture: a line of it is faulty, the first; or none, but memory is lacking
abbrev pub ExplainsSeen : Site → Option (List ℕ) → Failure → Type 0
ExplainsSeen l picture (Picture fault) = IsFaultyAt l picture fault
ExplainsSeen l picture OutOfMemory = IsReadable l picture
ExplainsSeen l picture why = ⊥
