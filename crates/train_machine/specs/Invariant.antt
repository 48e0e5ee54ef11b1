-- What every move keeps, and what the promise follows from. Nothing in it is about how many trains, sections, points or
-- routes there are.
use Rattle.std.specs.Prelude.{◌≡◌, ◌≢◌, ◌⊎◌, ◌+◌, ◌≤◌, ℕ, true, false, List, ◌∷◌, Some, None}
use Rattle.train_machine.specs.Lists.{IsOf, IsNext, IsEnd}
use Rattle.train_machine.specs.Track.{Track, path}
use Rattle.train_machine.specs.Train.{Under, Nothing, Throat, OnRoute}
use Rattle.train_machine.specs.Section.{Clear, Awaited, Came, Gone, Section, is_unheard}
use Rattle.train_machine.specs.Route.{Phase, Free, Waiting, Proceeding, Ended, Route, is_given, is_open, is_whole}
use Rattle.train_machine.specs.Machine.{report_time, Point, Pass, Never, At, Past, Machine, IsIn, IsOn}
use Rattle.train_machine.specs.Promise.{StandsAt}

-- One: the entry signal of an open route was passed in this setting. While the route isn't withdrawn, nothing was told of
-- that; and once the interlocking has made a step of report_time later, it has been withdrawn.
abbrev pub IsOnce : Phase → (withdrawn_at : ℕ) → Section → Pass → Type 0
IsOnce phase withdrawn_at begin Never = ⊥
IsOnce phase withdrawn_at begin (At reading) = phase ≡ Proceeding → (begin.told ≡ Awaited) × (begin.entered ≡ reading)
IsOnce phase withdrawn_at begin (Past time) = (phase ≢ Proceeding) × (withdrawn_at ≤ time)

pub record IsRouteSound (track : Track) (sections : ℕ → Section) (points : ℕ → Point) (passes : ℕ → Pass) (now : ℕ) (number : ℕ) (route : Route) : Type 0 where
  -- a route that isn't set holds nothing, and what a route holds lies on its path
  pub unset : route.phase ≡ Free → (section : ℕ) → route.holds section ≡ true → ⊥
  pub on_path : (section : ℕ) → route.holds section ≡ true → (place : ℕ) × IsOf place (path track number) × (track.section place ≡ section)
  -- until its authority ends it holds its whole path; after that it has freed only what was told occupied
  pub whole : is_whole route.phase ≡ true → (place : ℕ) → IsOf place (path track number) → route.holds (track.section place) ≡ true
  pub freed : is_given route.phase ≡ true → (place : ℕ) → IsOf place (path track number) → route.seen (track.section place) ≡ false
      → route.holds (track.section place) ≡ true
  -- waits: until it has authority, the interlocking knows that each train has left what it holds
  pub waits : route.phase ≡ Waiting → (section : ℕ) → route.holds section ≡ true → (sections section).told ≡ Gone
  -- so it is until a train passes its entry signal, and nothing is told occupied
  pub unpassed : is_given route.phase ≡ true → route.owner ≡ None → (section : ℕ) → route.holds section ≡ true → (sections section).told ≡ Gone
  pub unpassed_unseen : is_given route.phase ≡ true → route.owner ≡ None → (section : ℕ) → route.holds section ≡ true → route.seen section ≡ false
  -- while it has authority that isn't withdrawn, each section is believed clear
  pub clear : route.phase ≡ Proceeding → (section : ℕ) → route.holds section ≡ true → (sections section).belief ≡ Clear
  -- seen: what is told occupied is the train of this setting
  pub seen_came : is_given route.phase ≡ true → (section : ℕ) → route.holds section ≡ true → route.seen section ≡ true
      → is_unheard (sections section).told ≡ false
  pub unseen_awaited : is_given route.phase ≡ true → (section : ℕ) → route.holds section ≡ true → route.seen section ≡ false
      → ((sections section).told ≡ Awaited) ⊎ ((sections section).told ≡ Gone)
  -- cancelled: the train of this setting came into the first section before the authority ended, and into each later one
  -- before the interlocking was told, with nothing seen, that it had left the one before
  pub begun : route.phase ≡ Ended → route.holds (track.section (track.first number)) ≡ true → (sections (track.section (track.first number))).told ≢ Gone
      → (sections (track.section (track.first number))).entered ≤ route.ended
  pub went_on : is_given route.phase ≡ true → (a b : ℕ) → IsNext a b (path track number) → track.section a ≢ track.section b
      → route.holds (track.section b) ≡ true → route.seen (track.section a) ≡ false → (sections (track.section a)).told ≡ Gone
      → (sections (track.section b)).told ≢ Gone → (sections (track.section b)).entered ≤ (sections (track.section a)).since
  pub once : is_open route.phase ≡ true → route.owner ≢ None
      → IsOnce route.phase route.withdrawn_at (sections (track.section (track.first number))) (passes (track.entry number))
  pub past : route.withdrawn_at ≤ now
  -- each point of what it holds with authority stands undriven at its side
  pub settled : is_given route.phase ≡ true → (place point : ℕ) → IsOf place (path track number) → track.point place ≡ Some point
      → route.holds (track.section place) ≡ true → StandsAt (track.leg place) (points point)

-- a route to which authority was given holds the section
pub record IsHeldBy (machine : Machine) (section route : ℕ) : Type 0 where
  pub given : is_given (machine.routes route).phase ≡ true
  pub holds : (machine.routes route).holds section ≡ true

-- Behind: nothing was told of the last occupation of a section. Then a route with authority holds it, or the train had come in
-- from a border and had passed no signal yet, or it came into the section report_time ago.
abbrev pub IsAccounted : Machine → ℕ → Type 0
IsAccounted machine section = ((route : ℕ) × IsHeldBy machine section route)
    ⊎ (((machine.sections section).inlet ≡ true) ⊎ ((machine.sections section).entered + report_time ≤ machine.clock))

-- Ahead: a place before a train on its route is held for this train, and the train is in its section already, or the
-- interlocking knows that each train has left it.
pub record IsClaimed (track : Track) (machine : Machine) (train front route place : ℕ) : Type 0 where
  pub given : is_given (machine.routes route).phase ≡ true
  pub holds : (machine.routes route).holds (track.section place) ≡ true
  pub owner : (machine.routes route).owner ≡ Some train
  pub ahead : (track.section place ≡ track.section front)
      ⊎ (((machine.sections (track.section place)).told ≡ Gone) × ((machine.routes route).seen (track.section place) ≡ false))

pub record IsOnPath (track : Track) (machine : Machine) (train front route : ℕ) (way : List ℕ) : Type 0 where
  pub ends : IsEnd front way (path track route)
  pub claims : (place : ℕ) → IsOf place way → IsClaimed track machine train front route place

-- A place before a train in a throat: no route holds it, and no other train is in its section, or has it before itself in
-- a throat.
pub record IsReserved (track : Track) (machine : Machine) (train place : ℕ) : Type 0 where
  pub unheld : (route : ℕ) → (machine.routes route).holds (track.section place) ≡ true → ⊥
  pub empty : (other : ℕ) → IsIn track machine other (track.section place) → other ≡ train
  pub unclaimed : (other border ahead : ℕ) → (machine.trains other).under ≡ Throat border → IsOf ahead (machine.trains other).way
      → track.section ahead ≡ track.section place → other ≡ train

pub record IsOnThroat (track : Track) (machine : Machine) (train front border : ℕ) (way : List ℕ) : Type 0 where
  pub ends : IsEnd front way (track.throat border)
  pub claims : (place : ℕ) → IsOf place way → IsReserved track machine train place

abbrev pub IsOnWay : Track → Machine → (train front : ℕ) → Under → (way : List ℕ) → Type 0
IsOnWay track machine train front Nothing way = Unit {0}
IsOnWay track machine train front (Throat border) way = IsOnThroat track machine train front border way
IsOnWay track machine train front (OnRoute route) way = IsOnPath track machine train front route way

-- a route to which authority was given holds a point
pub record HoldsPoint (track : Track) (machine : Machine) (point route : ℕ) : Type 0 where
  pub place : ℕ
  pub given : is_given (machine.routes route).phase ≡ true
  pub on_path : IsOf place (path track route)
  pub over : track.point place ≡ Some point
  pub holds : (machine.routes route).holds (track.section place) ≡ true

-- Under: a point under a train stands undriven at its leg. A route with authority holds it, or its section was entered
-- report_time ago, so that it isn't believed clear.
pub record IsUnder (track : Track) (machine : Machine) (place point : ℕ) : Type 0 where
  pub stands : StandsAt (track.leg place) (machine.points point)
  pub guarded : ((route : ℕ) × HoldsPoint track machine point route) ⊎ ((machine.sections (track.section place)).entered + report_time ≤ machine.clock)

pub record Invariant (track : Track) (machine : Machine) : Type 0 where
  pub routes : (route : ℕ) → IsRouteSound track machine.sections machine.points machine.passes machine.now route (machine.routes route)
  -- no two routes hold one section
  pub locks : (a b section : ℕ) → (machine.routes a).holds section ≡ true → (machine.routes b).holds section ≡ true → a ≡ b
  -- what is told of a section is so
  pub gone : (section : ℕ) → (machine.sections section).told ≡ Gone → (train : ℕ) → IsIn track machine train section → ⊥
  pub came : (section : ℕ) → (machine.sections section).told ≡ Came → (machine.sections section).belief ≢ Clear
  pub past : (section : ℕ) → (machine.sections section).entered ≤ machine.clock
  pub behind : (section : ℕ) → is_unheard (machine.sections section).told ≡ true → IsAccounted machine section
  -- alone, and own
  pub alone : (a b section : ℕ) → IsIn track machine a section → IsIn track machine b section → a ≡ b
  pub own : (train section route : ℕ) → IsHeldBy machine section route → IsIn track machine train section → (machine.routes route).owner ≡ Some train
  -- ahead, and under
  pub ways : (train front : ℕ) (rear : List ℕ) → (machine.trains train).places ≡ front ∷ rear
      → IsOnWay track machine train front (machine.trains train).under (machine.trains train).way
  pub under : (train place point : ℕ) → IsOn machine train place → track.point place ≡ Some point → IsUnder track machine place point
