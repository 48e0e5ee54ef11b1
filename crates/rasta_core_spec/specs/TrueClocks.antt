-- How true a clock is: to one part in a thousand, give or take ten microseconds, between any two moments since it was set.
use Rattle.std.specs.Prelude.{◌≡◌, ◌⊎◌, ℕ, ◌+◌, ◌*◌, ◌≤◌, Bool, true, false, List, [], ◌∷◌, if◌then◌else◌}
use Rattle.rasta_core_link.specs.declared.identity.Role.{Role}
use Rattle.rasta_core_link.specs.declared.identity.Role.TheVariants as role
use Rattle.rasta_core_spec.specs.Events.{Calls, Elsewhere, Event, Loses, May, Passes, Restarts, happened}
use Rattle.rasta_core_spec.specs.Names.{Names}
use Rattle.rasta_core_spec.specs.Run.{Ends, end_of}

-- A clock at a moment: true time then, and what it has, both in microseconds.
pub record Moment : Type 0 where
  pub at : ℕ
  pub clock : ℕ

-- What a clock may be off beside its drift, in thousandths of a microsecond: ten microseconds, for clocks and true time are
-- told in whole ones.
abbrev pub most_off : ℕ
most_off = 10000

-- From the early moment to the late one the clock went on by no less than 999 and no more than 1001 in 1000 of the true
-- time between them, give or take ten microseconds.
pub record IsSteady (early late : Moment) : Type 0 where
  pub least : 999 * late.at + 1000 * early.clock ≤ 1000 * late.clock + 999 * early.at + most_off
  pub most : 1000 * late.clock + 1001 * early.at ≤ 1000 * early.clock + 1001 * late.at + most_off

-- the clock of an end now
abbrev pub moment_of : Role → Ends → Moment
moment_of who ends = record { at = ends.time; clock = (end_of who ends).clock }

-- what is asked, unless this is so
abbrev pub unless : Bool → Type 0 → Type 0
unless true asked = Unit {0}
unless false asked = asked

abbrev pub is_same : Role → Role → Bool
is_same role.Client role.Client = true
is_same role.Server role.Server = true
is_same role.Client role.Server = false
is_same role.Server role.Client = false

-- the event makes this end anew, and so sets its clock
abbrev pub sets : Role → Event → Bool
sets who (Restarts other clock first_sequence_number) = is_same who other
sets who (Calls other call) = false
sets who (Passes elapsed of_client of_server) = false
sets who (Loses bytes) = false
sets who (Elsewhere count) = false

-- From a moment on the clock of an end is steady, until the end is made anew.
abbrev pub StaysSteady : Role → Moment → List Event → Ends → Type 0
StaysSteady who from [] ends = IsSteady from (moment_of who ends)
StaysSteady who from (first ∷ others) ends = IsSteady from (moment_of who ends) × unless (sets who first) (StaysSteady who from others (happened first ends))

-- Both clocks keep time over a list of events: they are steady between any two moments between which their end wasn't made
-- anew.
abbrev pub KeepTime : List Event → Ends → Type 0
KeepTime [] ends = Unit {0}
KeepTime (first ∷ others) ends = ((who : Role) → StaysSteady who (moment_of who ends) (first ∷ others) ends) × KeepTime others (happened first ends)

-- what may happen, whatever clocks do in it
abbrev pub MayCome : Names → Event → Ends → Type 0
MayCome names (Passes elapsed of_client of_server) ends = Unit {0}
MayCome names (Calls who call) ends = May names (Calls who call) ends
MayCome names (Loses bytes) ends = Unit {0}
MayCome names (Restarts who clock first_sequence_number) ends = Unit {0}
MayCome names (Elsewhere count) ends = Unit {0}

abbrev pub MayAllCome : Names → List Event → Ends → Type 0
MayAllCome names [] ends = Unit {0}
MayAllCome names (first ∷ others) ends = MayCome names first ends × MayAllCome names others (happened first ends)

-- ---- what is kept of the moments behind

-- How far a clock is off, in thousandths of a microsecond: how much it is behind the one that went on by 999 in 1000 from some
-- moment on, and how much ahead of the one that went on by 1001.
pub record Offset : Type 0 where
  pub behind : ℕ
  pub ahead : ℕ

-- a clock that was just set
abbrev pub set : Offset
set = record { behind = 0; ahead = 0 }

-- ten microseconds at most
pub record IsSmall (offset : Offset) : Type 0 where
  pub behind : offset.behind ≤ most_off
  pub ahead : offset.ahead ≤ most_off

-- A clock goes on by so much in a time, and comes to be off by no more than this.
pub record GoesOff (elapsed own : ℕ) (old new : Offset) : Type 0 where
  pub small : IsSmall new
  pub least : 999 * elapsed + old.behind ≤ 1000 * own + new.behind
  pub most : 1000 * own + old.ahead ≤ 1001 * elapsed + new.ahead

-- A clock is off so far from one moment that is behind, and ahead from another.
pub record IsOffSince (slow fast now : Moment) (offset : Offset) : Type 0 where
  pub behind : 1000 * now.clock + offset.behind + 999 * slow.at ≡ 1000 * slow.clock + 999 * now.at
  pub ahead : 1000 * now.clock + 1001 * fast.at ≡ 1000 * fast.clock + 1001 * now.at + offset.ahead

-- a moment later
abbrev pub moment_on : ℕ → ℕ → Moment → Moment
moment_on elapsed own now = record { at = now.at + elapsed; clock = now.clock + own }

-- What becomes of it: each of the two moments stays, or is the new one.
pub record GoesOffSince (slow fast now : Moment) (old : Offset) (elapsed own : ℕ) : Type 0 where
  pub slow_then : Moment
  pub fast_then : Moment
  pub offset : Offset
  pub slow_is : (slow_then ≡ slow) ⊎ (slow_then ≡ moment_on elapsed own now)
  pub fast_is : (fast_then ≡ fast) ⊎ (fast_then ≡ moment_on elapsed own now)
  pub goes : GoesOff elapsed own old offset
  pub since : IsOffSince slow_then fast_then (moment_on elapsed own now) offset

-- an event in which no time passes
abbrev pub IsAtOnce : Event → Type 0
IsAtOnce (Passes elapsed of_client of_server) = ⊥
IsAtOnce (Calls who call) = Unit {0}
IsAtOnce (Loses bytes) = Unit {0}
IsAtOnce (Restarts who clock first_sequence_number) = Unit {0}
IsAtOnce (Elsewhere count) = Unit {0}

-- how far the clocks are off after it
abbrev pub offsets_after : Event → (Role → Offset) → Role → Offset
offsets_after event offsets who = if sets who event then set else offsets who
