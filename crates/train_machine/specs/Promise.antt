-- What is promised of the trains of a station.
use Rattle.std.specs.Prelude.{◌≡◌, ℕ, false, Some}
use Rattle.train_machine.specs.Lists.{IsFirst}
use Rattle.train_machine.specs.Track.{Side, Track}
use Rattle.train_machine.specs.Machine.{Point, Machine, IsIn, IsOn}
use Rattle.train_machine.specs.Moves.{Move, Enters, Passes, Goes}

-- a point stands undriven at a side
pub record StandsAt (side : Side) (point : Point) : Type 0 where
  pub lies : point.lies ≡ Some side
  pub undriven : point.moves ≡ false

-- a point that a place is on, if it is on one, stands undriven at the leg by which a train lies on it there
abbrev pub LiesFor : Track → Machine → (place : ℕ) → Type 0
LiesFor track machine place = (point : ℕ) → track.point place ≡ Some point → StandsAt (track.leg place) (machine.points point)

pub record IsApart (track : Track) (machine : Machine) : Type 0 where
  -- no two trains stand in one section
  pub alone : (a b section : ℕ) → IsIn track machine a section → IsIn track machine b section → a ≡ b
  -- each point under a train stands undriven at the leg by which the train lies on it
  pub still : (train place : ℕ) → IsOn machine train place → LiesFor track machine place

-- no head comes onto a point that is driven, lies at no end, or is entered by the other leg
abbrev pub HasWay : Track → Machine → Move → Type 0
HasWay track machine (Enters train border) = (place : ℕ) → IsFirst place (track.throat border) → LiesFor track machine place
HasWay track machine (Passes train route place) = LiesFor track machine place
HasWay track machine (Goes train place) = LiesFor track machine place
HasWay track machine move = Unit {0}
