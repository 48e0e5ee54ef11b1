-- What is promised of a line as it runs.
use Rattle.std.specs.Prelude.{◌≡◌, Bool, true, false, List, [], ◌∷◌, ◌++◌, Option, Some, None}
use Rattle.line_host.specs.Host.{HostState, report_of}
use Rattle.line_laws.specs.declared.words.Position.TheVariants.{Right}
use Rattle.line_laws.specs.declared.words.Side.{Side}
use Rattle.line_laws.specs.declared.words.Side.TheVariants.{First, Second}
use Rattle.line_world.specs.declared.names.LineNames.{LineNames}
use Rattle.line_world.specs.Events.{LineEvent, Looks, Misses, Passes, Loses, Restarts}
use Rattle.line_world.specs.Happens.{happens}
use Rattle.line_world.specs.State.{EndRun, LineRun, end_at}

-- ---- what is seen of an end

-- The line's token is here, and the lock lies at the right: so its file says, also while no process runs.
abbrev pub HasToken : EndRun → Type 0
HasToken end = end.file.token ≡ true

abbrev pub IsLocked : EndRun → Type 0
IsLocked end = end.file.lock ≡ Right

-- It tells its station that the line is clear. One of which no process runs tells nothing.
abbrev pub told_clear : Option HostState → Bool
told_clear None = false
told_clear (Some process) = (report_of process).clear

abbrev pub tells_clear : EndRun → Bool
tells_clear end = told_clear end.process

-- ---- contacts

-- Whether a contact of the part of each end is occupied.
pub record Contacts : Type 0 where
  pub first : Bool
  pub second : Bool

abbrev pub busy_at : Side → Contacts → Bool
busy_at First contacts = contacts.first
busy_at Second contacts = contacts.second

abbrev pub with_busy : Side → Bool → Contacts → Contacts
with_busy First busy contacts = record contacts { first = busy }
with_busy Second busy contacts = record contacts { second = busy }

-- what an event says of them: an end that looks sees its own
abbrev pub contacts_after : LineEvent → Contacts → Contacts
contacts_after (Looks side occasion seen ending) contacts = with_busy side seen.busy contacts
contacts_after (Misses side busy) contacts = with_busy side busy contacts
contacts_after (Passes elapsed of_first of_second) contacts = contacts
contacts_after (Loses bytes) contacts = contacts
contacts_after (Restarts side clock first) contacts = contacts

-- a line with its contacts
pub record LineThen : Type 0 where
  pub run : LineRun
  pub contacts : Contacts

abbrev pub then_after : LineNames → LineEvent → LineThen → LineThen
then_after names event now = record { run = happens names event now.run; contacts = contacts_after event now.contacts }

abbrev pub then_after_all : LineNames → List LineEvent → LineThen → LineThen
then_after_all names [] now = now
then_after_all names (event ∷ events) now = then_after_all names events (then_after names event now)

-- ---- clear was clear

-- no contact of either end is occupied
pub record AreFree (contacts : Contacts) : Type 0 where
  pub first : contacts.first ≡ false
  pub second : contacts.second ≡ false

-- an end has the token, and no contact of its part is occupied
pub record Holds (side : Side) (now : LineThen) : Type 0 where
  pub token : HasToken (end_at side now.run)
  pub free : busy_at side now.contacts ≡ false

-- a fact holds now, and after each of these events
abbrev pub Throughout : LineNames → (LineThen → Type 0) → List LineEvent → LineThen → Type 0
Throughout names Fact [] now = Fact now
Throughout names Fact (event ∷ events) now = Fact now × Throughout names Fact events (then_after names event now)

-- There was a moment at which no contact of either end was occupied, and since that moment this end has had the token, and no
-- contact of its own was occupied.
pub record WasClear (names : LineNames) (side : Side) (start : LineThen) (events : List LineEvent) : Type 0 where
  pub earlier : List LineEvent
  pub later : List LineEvent
  pub whole : earlier ++ later ≡ events
  pub clear : AreFree (then_after_all names earlier start).contacts
  pub since : Throughout names (Holds side) later (then_after_all names earlier start)
