-- The machine of a station with trains. It has no links, no nodes and no telegrams.
use Rattle.std.specs.Prelude.{◌≡◌, ℕ, Bool, true, Option}
use Rattle.train_machine.specs.Lists.{IsOf, changed_at}
use Rattle.train_machine.specs.Track.{Side, Track}
use Rattle.train_machine.specs.Train.{Train, is_in}
use Rattle.train_machine.specs.Section.{Section}
use Rattle.train_machine.specs.Route.{Route}

-- Milliseconds of the interlocking's clock: what is believed clear was sensed less than this long ago.
abbrev pub report_time : ℕ
report_time = 1800

-- Milliseconds of true time: a lamp that shows an aspect was told so less than this long ago.
abbrev pub lamp_time : ℕ
lamp_time = 1802

pub record Point : Type 0 where
  -- where it stands: at a side, or in between
  pub lies : Option Side
  -- it is driven, or a move of it is under way that could still be taken
  pub moves : Bool

-- The last time that a train passed a signal.
pub data Pass : Type 0 where
  -- none passed it yet
  Never : Pass
  -- at this reading of the interlocking; it has made no step since of report_time later or more
  At : (reading : ℕ) → Pass
  -- it made the first such step at this true time
  Past : (time : ℕ) → Pass

pub record Machine : Type 0 where
  pub trains : (train : ℕ) → Train
  pub sections : (section : ℕ) → Section
  pub routes : (route : ℕ) → Route
  pub points : (point : ℕ) → Point
  pub passes : (signal : ℕ) → Pass
  -- true time, and how long the interlocking's clock has run in all its lives, in milliseconds
  pub now : ℕ
  pub clock : ℕ

-- a train stands on an element of the section
abbrev pub IsIn : Track → Machine → (train section : ℕ) → Type 0
IsIn track machine train section = is_in track section (machine.trains train).places ≡ true

-- a train stands on a place
abbrev pub IsOn : Machine → (train place : ℕ) → Type 0
IsOn machine train place = IsOf place (machine.trains train).places

abbrev pub with_train : ℕ → Train → Machine → Machine
with_train number train machine = record machine { trains = changed_at number train machine.trains }

abbrev pub with_route : ℕ → Route → Machine → Machine
with_route number route machine = record machine { routes = changed_at number route machine.routes }

abbrev pub with_point : ℕ → Point → Machine → Machine
with_point number point machine = record machine { points = changed_at number point machine.points }
