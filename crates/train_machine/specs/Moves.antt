-- What can happen to the machine, when, and what it leaves. Each premise says who gives it: a premise of the traffic, a
-- rule of the interlocking, what its links give, or the headline.
use Rattle.std.specs.Prelude.{◌≡◌, ◌≢◌, ◌⊎◌, ◌+◌, ◌≤◌, ◌<◌, ℕ, Bool, true, false, nat_le, List, [], ◌∷◌, map, Option, Some, None, if◌then◌else◌}
use Rattle.train_machine.specs.Lists.{IsOf, changed_at, without_last, turned_round}
use Rattle.train_machine.specs.Track.{Side, Track, path}
use Rattle.train_machine.specs.Train.{Under, Nothing, Throat, OnRoute, Train, is_throat, is_in}
use Rattle.train_machine.specs.Section.{Belief, Unknown, Occupied, Clear, Told, Late, Awaited, Came, Gone, Section, is_occupied, is_unheard, section_entered, News, Lost, Old, IsOccupied, IsLeft, belief_told, section_told}
use Rattle.train_machine.specs.Route.{Phase, Free, Waiting, Proceeding, Withdrawn, Ended, Route, free_route, is_given, is_open, withdrawn_phase, withdrawn_time}
use Rattle.train_machine.specs.Machine.{report_time, lamp_time, Pass, Never, At, Past, Machine, IsIn, with_train, with_route, with_point}

-- what can happen
pub data Move : Type 0 where
  -- ---- of a train: it comes in over a throat
  Enters : (train border : ℕ) → Move
  -- its head passes the signal before it, which shows the aspect of a route, and comes onto a place
  Passes : (train route place : ℕ) → Move
  -- its head goes on to a place where no signal stands between
  Goes : (train place : ℕ) → Move
  -- its rear leaves the rearmost element; a train that leaves its last one is gone
  Follows : (train : ℕ) → Move
  -- rear and front change places
  Turns : (train : ℕ) → Move
  -- ---- of the interlocking: it is told of a section
  Hears : (section : ℕ) → News → Move
  -- it sets a route
  Sets : (route : ℕ) → Move
  -- it gives authority to a route, and so the route's aspect to its signal
  Authorises : (route : ℕ) → Move
  -- it withdraws the authority, and gives stop
  Withdraws : (route : ℕ) → Move
  -- the authority ends
  Ends : (route : ℕ) → Move
  -- it frees a section of a route, after a train has passed
  FreesSection : (route section : ℕ) → Move
  -- it frees a cancelled route that had authority
  FreesCancelled : (route : ℕ) → Move
  -- it frees a route that had none, or that holds nothing any more
  Frees : (route : ℕ) → Move
  -- it gives a move to a point
  GivesMove : (point : ℕ) → Move
  -- it ends a step
  Steps : Move
  -- it is resumed after it was made anew: it knows nothing of its former routes, which stood until now
  Resumes : Move
  -- ---- of the rest: a point that is driven, or to which a move is under way, goes on, and rests or doesn't
  Acts : (point : ℕ) (lies : Option Side) (moves : Bool) → Move
  -- time passes
  Time : (now clock : ℕ) → Move

-- ---- what a move leaves

-- the sections when a train's head comes onto a place
abbrev pub sections_entered : Track → Machine → (train place : ℕ) (inlet : Bool) → ℕ → Section
sections_entered track machine train place inlet =
    if is_in track (track.section place) (machine.trains train).places then machine.sections
    else changed_at (track.section place) (section_entered inlet machine.clock (machine.sections (track.section place))) machine.sections

-- a train's head comes onto a place, under this, with these places before it
abbrev pub come : Track → (train place : ℕ) → Under → (way : List ℕ) → Machine → Machine
come track train place under way machine = record machine {
  trains = changed_at train (record { places = place ∷ (machine.trains train).places; under = under; way = way }) machine.trains;
  sections = sections_entered track machine train place (is_throat under);
}

abbrev pub entering : Track → (train border : ℕ) → (throat : List ℕ) → Machine → Machine
entering track train border [] machine = machine
entering track train border (place ∷ way) machine = come track train place (Throat border) way machine

-- what is left of a way when a train goes on
abbrev pub later_way : List ℕ → List ℕ
later_way [] = []
later_way (place ∷ way) = way

-- a train has passed the entry signal of a route
abbrev pub passed : Track → (train route : ℕ) → Machine → Machine
passed track train route machine = record machine {
  routes = changed_at route (record (machine.routes route) { owner = Some train }) machine.routes;
  passes = changed_at (track.entry route) (At machine.clock) machine.passes;
}

-- A route that has authority is withdrawn where a section that it holds isn't clear.
abbrev pub phase_told : (holds : Bool) → Belief → Phase → Phase
phase_told false belief phase = phase
phase_told true Unknown phase = withdrawn_phase phase
phase_told true Occupied phase = withdrawn_phase phase
phase_told true Clear phase = phase

abbrev pub time_told : (now : ℕ) (holds : Bool) → Belief → Phase → (before : ℕ) → ℕ
time_told now false belief phase before = before
time_told now true Unknown phase before = withdrawn_time now phase before
time_told now true Occupied phase before = withdrawn_time now phase before
time_told now true Clear phase before = before

abbrev pub route_told : (now : ℕ) → ℕ → Belief → Route → Route
route_told now section belief route = record {
  phase = phase_told (route.holds section) belief route.phase;
  holds = route.holds;
  seen = if is_occupied belief then changed_at section true route.seen else route.seen;
  owner = route.owner;
  withdrawn_at = time_told now (route.holds section) belief route.phase route.withdrawn_at;
  ended = route.ended;
}

abbrev pub told : ℕ → News → Machine → Machine
told section news machine = record machine {
  sections = changed_at section (section_told machine.clock news (machine.sections section)) machine.sections;
  routes = λ route. route_told machine.now section (belief_told news) (machine.routes route);
}

abbrev pub set_route : Track → ℕ → Route
set_route track route = record {
  phase = Waiting;
  holds = λ section. is_in track section (path track route);
  seen = λ section. false;
  owner = None;
  withdrawn_at = 0;
  ended = 0;
}

abbrev pub authorised : Route → Route
authorised route = record { phase = Proceeding; holds = route.holds; seen = λ section. false; owner = None; withdrawn_at = 0; ended = route.ended }

abbrev pub withdrawn : (now : ℕ) → Route → Route
withdrawn now route = record {
  phase = withdrawn_phase route.phase;
  holds = route.holds;
  seen = route.seen;
  owner = route.owner;
  withdrawn_at = withdrawn_time now route.phase route.withdrawn_at;
  ended = route.ended;
}

abbrev pub pass_stepped : (now clock : ℕ) → Pass → Pass
pass_stepped now clock Never = Never
pass_stepped now clock (At reading) = if nat_le (reading + report_time) clock then Past now else At reading
pass_stepped now clock (Past time) = Past time

-- a train goes on only by passing a signal
abbrev pub stopped : Train → Train
stopped train = record { places = train.places; under = Nothing; way = [] }

-- a train whose rear left the rearmost element; one that is gone is under nothing
abbrev pub followed : (places : List ℕ) → Train → Train
followed [] train = record { places = []; under = Nothing; way = [] }
followed (place ∷ places) train = record { places = place ∷ places; under = train.under; way = train.way }

abbrev pub turned_train : Track → Train → Train
turned_train track train = record { places = turned_round (map track.turned train.places) []; under = Nothing; way = [] }

-- the machine after a move
abbrev pub after : Track → Machine → Move → Machine
after track machine (Enters train border) = entering track train border (track.throat border) machine
after track machine (Passes train route place) = come track train place (OnRoute route) (track.later route) (passed track train route machine)
after track machine (Goes train place) = come track train place (machine.trains train).under (later_way (machine.trains train).way) machine
after track machine (Follows train) =
    with_train train (followed (without_last (machine.trains train).places) (machine.trains train)) machine
after track machine (Turns train) = with_train train (turned_train track (machine.trains train)) machine
after track machine (Hears section news) = told section news machine
after track machine (Sets route) = with_route route (set_route track route) machine
after track machine (Authorises route) = with_route route (authorised (machine.routes route)) machine
after track machine (Withdraws route) = with_route route (withdrawn machine.now (machine.routes route)) machine
after track machine (Ends route) = with_route route (record (machine.routes route) { phase = Ended; ended = machine.clock }) machine
after track machine (FreesSection route section) =
    with_route route (record (machine.routes route) { holds = changed_at section false (machine.routes route).holds }) machine
after track machine (FreesCancelled route) = with_route route free_route machine
after track machine (Frees route) = with_route route free_route machine
after track machine (GivesMove point) = with_point point (record (machine.points point) { moves = true }) machine
after track machine Steps = record machine { passes = λ signal. pass_stepped machine.now machine.clock (machine.passes signal) }
after track machine Resumes = record machine { trains = λ train. stopped (machine.trains train); routes = λ route. free_route }
after track machine (Acts point lies moves) = with_point point (record { lies = lies; moves = moves }) machine
after track machine (Time now clock) = record machine { now = now; clock = clock }

-- ---- when it can happen

-- A place is joined to the next, and where a point lies between, entered by its tip, at a side, the next one is by this leg.
-- The track gives it.
pub record IsLed (track : Track) (machine : Machine) (place next : ℕ) : Type 0 where
  pub joined : track.follows place next ≡ true
  pub by_leg : (point : ℕ) (side : Side) → track.point next ≡ Some point → track.is_facing next ≡ true → (machine.points point).lies ≡ Some side → side ≡ track.leg next

-- Where the front of a train is.
pub record IsAtFront (train : Train) (front : ℕ) : Type 0 where
  pub rear : List ℕ
  pub stands : train.places ≡ front ∷ rear

-- Headway, a premise of the traffic: where a train passed the signal before, the interlocking has made a step since that
-- was report_time later by its clock, and this step was lamp_time ago.
abbrev pub HasHeadway : (now : ℕ) → Pass → Type 0
HasHeadway now Never = Unit {0}
HasHeadway now (At reading) = ⊥
HasHeadway now (Past time) = time + lamp_time ≤ now

-- A train passes the signal before it.
pub record MayPass (track : Track) (machine : Machine) (train route place : ℕ) : Type 0 where
  pub front : ℕ
  pub at_front : IsAtFront (machine.trains train) front
  pub led : IsLed track machine front place
  pub before : track.signal front ≡ Some (track.entry route)
  -- Obey, a premise of the traffic: the signal shows the aspect of a route. The headline gives that this route has
  -- authority, or had it when the interlocking was made anew; and what the controller's link gives (dark) that the step
  -- in which it was withdrawn, if it is, is less than lamp_time ago.
  pub shown : is_open (machine.routes route).phase ≡ true
  pub dark : (machine.routes route).phase ≡ Withdrawn → machine.now < (machine.routes route).withdrawn_at + lamp_time
  pub headway : HasHeadway machine.now (machine.passes (track.entry route))

-- A train goes on without passing a signal.
pub record MayGo (track : Track) (machine : Machine) (train place : ℕ) : Type 0 where
  pub front : ℕ
  pub at_front : IsAtFront (machine.trains train) front
  pub led : IsLed track machine front place
  pub unsignalled : track.signal front ≡ None
  -- Stands and turn, premises of the traffic: since the interlocking was resumed, and since it turned, it came in or passed
  -- a signal.
  pub let_go : (machine.trains train).under ≢ Nothing

-- A train comes in: inlet, a premise of the traffic, which the neighbouring station or operating rules give.
pub record MayEnter (track : Track) (machine : Machine) (train border : ℕ) : Type 0 where
  pub absent : (machine.trains train).places ≡ []
  -- no train stands in a section of the throat
  pub empty : (place other : ℕ) → IsOf place (track.throat border) → IsIn track machine other (track.section place) → ⊥
  -- nor is it before a train that came in and has passed no signal since
  pub unclaimed : (place other from ahead : ℕ) → IsOf place (track.throat border) → (machine.trains other).under ≡ Throat from
      → IsOf ahead (machine.trains other).way → track.section ahead ≢ track.section place
  -- no set route holds one; an interlocking that was made anew holds those of its former routes, until it is resumed
  pub unheld : (place route : ℕ) → IsOf place (track.throat border) → (machine.routes route).holds (track.section place) ≡ true → ⊥

-- What is sensed before a train came in can be told later only where the interlocking may still be told of earlier ones;
-- else it is no occupation.
abbrev pub MayBeOld : Told → Belief → Type 0
MayBeOld Late belief = Unit {0}
MayBeOld Awaited Unknown = Unit {0}
MayBeOld Awaited Occupied = ⊥
MayBeOld Awaited Clear = Unit {0}
MayBeOld Came belief = ⊥
MayBeOld Gone belief = ⊥

-- A link tells each change of a section, in order, except for those that happen while it is lost.
abbrev pub MayHear : Track → Machine → ℕ → News → Type 0
MayHear track machine section Lost = Unit {0}
MayHear track machine section (Old belief) = MayBeOld (machine.sections section).told belief
MayHear track machine section IsOccupied = (machine.sections section).told ≢ Gone
MayHear track machine section IsLeft =
    ((train : ℕ) → IsIn track machine train section → ⊥)
    × (is_unheard (machine.sections section).told ≡ true → (machine.sections section).belief ≢ Clear)

-- Fresh, which the detectors' links give in every step: a section that is believed clear, and into which a train came
-- of which nothing was told, was entered less than report_time ago.
abbrev pub AreFresh : Machine → Type 0
AreFresh machine = (section : ℕ) → is_unheard (machine.sections section).told ≡ true → (machine.sections section).belief ≡ Clear
    → machine.clock < (machine.sections section).entered + report_time

-- A route is set.
pub record MaySet (track : Track) (machine : Machine) (route : ℕ) : Type 0 where
  pub fresh : AreFresh machine
  -- a rule: it isn't set, each section of it is believed clear, and no route holds one
  pub free : (machine.routes route).phase ≡ Free
  pub clear : (place : ℕ) → IsOf place (path track route) → (machine.sections (track.section place)).belief ≡ Clear
  pub unheld : (place other : ℕ) → IsOf place (path track route) → (machine.routes other).holds (track.section place) ≡ true → ⊥
  -- Let in, a premise of the traffic: a section of it into which a train came last that came in and had passed no signal
  -- was entered report_time ago, and none is before such a train.
  pub entered : (place : ℕ) → IsOf place (path track route) → (machine.sections (track.section place)).inlet ≡ true
      → (machine.sections (track.section place)).entered + report_time ≤ machine.clock
  pub unclaimed : (place train from ahead : ℕ) → IsOf place (path track route) → (machine.trains train).under ≡ Throat from
      → IsOf ahead (machine.trains train).way → track.section ahead ≢ track.section place

-- A route is given authority: a rule. That a point known at its side stands there undriven is the headline's.
pub record MayAuthorise (track : Track) (machine : Machine) (route : ℕ) : Type 0 where
  pub waiting : (machine.routes route).phase ≡ Waiting
  pub clear : (place : ℕ) → IsOf place (path track route) → (machine.sections (track.section place)).belief ≡ Clear
  pub stands : (place point : ℕ) → IsOf place (path track route) → track.point place ≡ Some point → (machine.points point).lies ≡ Some (track.leg place)
  pub undriven : (place point : ℕ) → IsOf place (path track route) → track.point place ≡ Some point → (machine.points point).moves ≡ false

-- A section is freed after a train has passed: a rule.
pub record MayFreeSection (machine : Machine) (route section : ℕ) : Type 0 where
  pub ended : (machine.routes route).phase ≡ Ended
  pub seen : (machine.routes route).seen section ≡ true
  pub clear : (machine.sections section).belief ≡ Clear

-- A cancelled route that had authority is freed: a rule. Its authority ended report_time ago, no section of it was told
-- occupied since it was given, and each has been believed clear for report_time, without a break.
pub record MayFreeCancelled (track : Track) (machine : Machine) (route : ℕ) : Type 0 where
  pub fresh : AreFresh machine
  pub ended : (machine.routes route).phase ≡ Ended
  pub over : (machine.routes route).ended + report_time ≤ machine.clock
  pub unseen : (place : ℕ) → IsOf place (path track route) → (machine.routes route).seen (track.section place) ≡ false
  pub clear : (place : ℕ) → IsOf place (path track route) → (machine.sections (track.section place)).belief ≡ Clear
  pub since : (place : ℕ) → IsOf place (path track route) → (machine.sections (track.section place)).since + report_time ≤ machine.clock

-- A route holds nothing: it is free again.
abbrev pub MayFree : Route → Type 0
MayFree route = (route.phase ≡ Waiting) ⊎ ((route.phase ≡ Ended) × ((section : ℕ) → route.holds section ≡ true → ⊥))

-- A move is given to a point: a rule. The point's own section is believed clear, and no route to which authority was given
-- holds the point.
pub record MayGiveMove (track : Track) (machine : Machine) (point : ℕ) : Type 0 where
  pub fresh : AreFresh machine
  pub clear : (machine.sections (track.own point)).belief ≡ Clear
  pub unheld : (route place : ℕ) → is_given (machine.routes route).phase ≡ true → IsOf place (path track route) → track.point place ≡ Some point
      → (machine.routes route).holds (track.section place) ≡ true → ⊥

-- when a move can be made
abbrev pub May : Track → Machine → Move → Type 0
May track machine (Enters train border) = MayEnter track machine train border
May track machine (Passes train route place) = MayPass track machine train route place
May track machine (Goes train place) = MayGo track machine train place
May track machine (Follows train) = Unit {0}
May track machine (Turns train) = Unit {0}
May track machine (Hears section news) = MayHear track machine section news
May track machine (Sets route) = MaySet track machine route
May track machine (Authorises route) = MayAuthorise track machine route
May track machine (Withdraws route) = Unit {0}
May track machine (Ends route) = is_open (machine.routes route).phase ≡ true
May track machine (FreesSection route section) = MayFreeSection machine route section
May track machine (FreesCancelled route) = MayFreeCancelled track machine route
May track machine (Frees route) = MayFree (machine.routes route)
May track machine (GivesMove point) = MayGiveMove track machine point
May track machine Steps = AreFresh machine
-- Stood, a premise of the traffic: no train came into a section less than report_time ago, one that is gone neither.
May track machine Resumes = (section : ℕ) → (machine.sections section).entered + report_time ≤ machine.clock
May track machine (Acts point lies moves) = (machine.points point).moves ≡ true
May track machine (Time now clock) = (machine.now ≤ now) × (machine.clock ≤ clock)
