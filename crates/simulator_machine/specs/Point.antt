-- A point: the moves that the interlocking gives, what the controller does with them, and the reports that it makes.
use Rattle.std.specs.Prelude.{◌≡◌, ◌+◌, ◌-◌, ◌≤◌, ℕ, Bool, true, false, List, [], ◌∷◌, ◌++◌, length, Option, Some, None}
use Rattle.simulator_machine.specs.Lists.{last_of}
use Rattle.simulator_machine.specs.Link.{Up, In, Gone, Link, LinkMove, Opens, Leaves, LinkMay, link_after}

pub data Side : Type 0 where
  Left Right : Side

-- an end position, or none, where a point stands in between or a move didn't reach its end
abbrev pub Position : Type 0
Position = Option Side

pub record Point : Type 0 where
  pub link : Link
  -- the moves given in the client's last connection: how many the controller took, and how many are still under way
  pub taken : ℕ
  pub flight : ℕ
  -- the reports made there, oldest first, the first of them the initial status: those that the interlocking heard, and
  -- those that are still under way
  pub heard : List Position
  pub coming : List Position
  -- a motor drives it
  pub driven : Bool
  pub position : Position

abbrev pub moves_given : Point → ℕ
moves_given point = point.taken + point.flight

abbrev pub reports_made : Point → List Position
reports_made point = point.heard ++ point.coming

-- Known at a side: the link is up, the initial status and the report of each move given there were heard, and the last
-- of them is that side.
pub record IsKnownAt (side : Side) (point : Point) : Type 0 where
  pub up : point.link.client ≡ Up
  pub answered : length point.heard ≡ moves_given point + 1
  pub last : last_of None point.heard ≡ Some side

pub record StandsUndriven (side : Side) (point : Point) : Type 0 where
  pub stands : point.position ≡ Some side
  pub undriven : point.driven ≡ false

-- what can happen at a point alone
pub data PointMove : Type 0 where
  -- to its link
  PointLink : LinkMove → PointMove
  -- the controller takes the next move, and then drives or doesn't
  Takes : (drives : Bool) → PointMove
  -- the motor is switched off
  DriveEnds : PointMove
  -- a driven point goes on
  Reaches : (position : Position) → PointMove
  -- the controller makes a report
  Reports : (position : Position) → PointMove
  -- the interlocking hears the next report
  Hears : PointMove
  -- the moves of a controller that has left are counted anew: how many of them it took
  RecountsMoves : (taken flight : ℕ) → PointMove
  -- the reports made are counted anew: how many of them were heard
  RecountsReports : (heard coming : List Position) → PointMove

-- A controller may report: it is in the connection and doesn't drive, it took as many moves as it made reports, and an
-- end position that it reports is where the point stands.
pub record MayReport (position : Position) (point : Point) : Type 0 where
  pub inside : point.link.server ≡ In
  pub undriven : point.driven ≡ false
  pub owed : length (reports_made point) ≤ point.taken
  pub true_side : (side : Side) → position ≡ Some side → point.position ≡ Some side

-- when it can
abbrev pub PointMay : PointMove → Point → Type 0
PointMay (PointLink move) point = LinkMay move point.link
PointMay (Takes drives) point = (point.link.server ≡ In) × (1 ≤ point.flight)
PointMay DriveEnds point = Unit {0}
PointMay (Reaches position) point = point.driven ≡ true
PointMay (Reports position) point = MayReport position point
PointMay Hears point = Unit {0}
PointMay (RecountsMoves taken flight) point = (point.link.server ≡ Gone) × (taken + flight ≡ moves_given point)
PointMay (RecountsReports heard coming) point = heard ++ coming ≡ reports_made point

-- a new connection has no moves and no reports yet; a controller that leaves points its motor off
abbrev pub point_linked : LinkMove → Point → Point
point_linked Opens point =
    record { link = link_after Opens point.link; taken = 0; flight = 0; heard = []; coming = []; driven = point.driven; position = point.position }
point_linked Leaves point = record point { link = link_after Leaves point.link; driven = false }
point_linked move point = record point { link = link_after move point.link }

-- the point when the next of these reports is heard
abbrev pub heard_next : List Position → Point → Point
heard_next [] point = point
heard_next (next ∷ later) point = record point { heard = point.heard ++ next ∷ []; coming = later }

abbrev pub move_given : Point → Point
move_given point = record point { flight = point.flight + 1 }

abbrev pub point_after : PointMove → Point → Point
point_after (PointLink move) point = point_linked move point
point_after (Takes drives) point = record point { taken = point.taken + 1; flight = point.flight - 1; driven = drives }
point_after DriveEnds point = record point { driven = false }
point_after (Reaches position) point = record point { position = position }
point_after (Reports position) point = record point { coming = point.coming ++ position ∷ [] }
point_after Hears point = heard_next point.coming point
point_after (RecountsMoves taken flight) point = record point { taken = taken; flight = flight }
point_after (RecountsReports heard coming) point = record point { heard = heard; coming = coming }
