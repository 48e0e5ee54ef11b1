-- What the rules come to, in the words of the field.
use Rattle.std.specs.Prelude.{◌≡◌, ◌≢◌, ◌⊎◌, ℕ, suc, ◌<◌, ◌≤◌, true, false, List, length, drop, Some, None, slice_get, IsTrue}
use Rattle.std.specs.FinSet.{contains}
use Rattle.std.specs.List.{All, Contains}
use Rattle.closings.specs.sci_telegram.declared.message.Aspect.TheVariants as aspects
use Rattle.closings.specs.sci_telegram.declared.message.Side.{Side}
use Rattle.closings.specs.declared.thing.Thing.{Thing}
use Rattle.closings.specs.declared.thing.Thing.TheVariants.{Section, Point, Signal, Route}
use Rattle.closings.specs.Closed.{IsClosed}
use Rattle.rasta_core.specs.Clock.{quiet_until}
use Rattle.rasta_core.specs.State.{confirmed_items, is_up}
use Rattle.release.specs.Approach.{approach_end}
use Rattle.ixl_client.specs.Client.{is_available, is_ready}
use Rattle.ixl_spec.specs.Table.{Need, Row, Table}
use Rattle.ixl_spec.specs.State.{KnownDetectorState, IxlState, KnownSignalState, RouteState}
use Rattle.ixl_spec.specs.View.{freed_sections, is_holding, is_set, was_authorised}
use Rattle.ixl_spec.specs.Operations.{section_thing, things_used}
use Rattle.ixl_spec.specs.StepSoFar.{StepSoFar}
use Rattle.ixl_spec.specs.declared.phase.Phase.{Phase}
use Rattle.ixl_spec.specs.declared.phase.Phase.TheVariants as phase

-- something of a list
abbrev pub At : {A : Type 0} → List A → ℕ → (A → Type 0) → Type 0
At {A} list place holds = (one : A) × (slice_get list place ≡ Some one) × holds one

-- ---- sections, points, signals

-- a fact of the detector that reports a section, and of the section's place there
abbrev pub ReportedBy : Table → IxlState → ℕ → (KnownDetectorState → ℕ → Type 0) → Type 0
ReportedBy table ixl section holds = At table.reporters section (λ reporter. At ixl.detectors reporter.0 (λ detector. holds detector reporter.1))

-- its detector is ready, and last told it as clear, or as occupied
abbrev pub IsClear : Table → IxlState → ℕ → Type 0
IsClear table ixl section = ReportedBy table ixl section (λ detector place. (is_ready detector.client.stage ≡ true) × (contains detector.occupied place ≡ false))

abbrev pub IsOccupied : Table → IxlState → ℕ → Type 0
IsOccupied table ixl section = ReportedBy table ixl section (λ detector place. (is_ready detector.client.stage ≡ true) × (contains detector.occupied place ≡ true))

-- a point is known at a side: its link is ready, each move given in this connection is answered, and the last report told
-- this side
abbrev pub Known : IxlState → ℕ → Side → Type 0
Known ixl point side = At ixl.known_points point (λ known_point. (is_available known_point.client.stage ≡ true) × (known_point.side ≡ Some side))

abbrev pub IsAvailable : IxlState → ℕ → Type 0
IsAvailable ixl point = At ixl.known_points point (λ known_point. (is_available known_point.client.stage ≡ true))

abbrev pub IsSignalReady : IxlState → ℕ → Type 0
IsSignalReady ixl signal = At ixl.known_signals signal (λ known_signal. (is_ready known_signal.client.stage ≡ true))

-- a signal is at known stop: its link is up, and the last aspect given in this connection is stop and its item is confirmed,
-- or none was given; or its link isn't up, and its quiet time is over
abbrev pub IsKnownSignalAtStop : ℕ → KnownSignalState → Type 0
IsKnownSignalAtStop now known_signal =
    ((is_up known_signal.client.link.phase ≡ true) × ((known_signal.aspect ≡ None) ⊎ ((known_signal.aspect ≡ Some aspects.Stop) × (known_signal.number ≤ confirmed_items known_signal.client.link))))
    ⊎ ((is_up known_signal.client.link.phase ≡ false) × (quiet_until known_signal.client.link ≤ now))

abbrev pub KnownStop : ℕ → IxlState → ℕ → Type 0
KnownStop now ixl signal = At ixl.known_signals signal (IsKnownSignalAtStop now)

-- ---- routes

-- a set route holds a section that isn't freed, and a point until the sections that it waits for are
abbrev pub HoldsSection : Row → Phase → ℕ → Type 0
HoldsSection row phase section = IsTrue (is_set phase) × Contains (drop (freed_sections phase) row.sections) section

abbrev pub HoldsPoint : Row → Phase → ℕ → Side → Type 0
HoldsPoint row phase point side = IsTrue (is_set phase)
    × ((need : Need) × Contains row.needs need × (need.point ≡ point) × (need.side ≡ side) × (freed_sections phase < need.until))

-- one route of the table, and what is kept of it
abbrev pub IsRouteOf : Table → IxlState → ℕ → Row → RouteState → Type 0
IsRouteOf table ixl number row route = (slice_get table.rows number ≡ Some row) × (slice_get ixl.routes number ≡ Some route)

-- a route blocks another
pub record Blocks (table : Table) (ixl : IxlState) (number wanted : ℕ) (wanted_row : Row) : Type 0 where
  pub row : Row
  pub route : RouteState
  pub is_route : IsRouteOf table ixl number row route
  pub other : number ≢ wanted
  pub set : IsTrue (is_set route.phase)
  pub why : (row.entry ≡ wanted_row.entry) ⊎ (Contains row.extra wanted ⊎ (Contains wanted_row.extra number
      ⊎ (((section : ℕ) × Contains wanted_row.sections section × HoldsSection row route.phase section)
      ⊎ ((need : Need) × (side : Side) × Contains wanted_row.needs need × (side ≢ need.side) × HoldsPoint row route.phase need.point side))))

-- some set route holds a point at a side; a route that was given authority in its present setting holds it
abbrev pub IsHeldAt : Table → IxlState → ℕ → Side → Type 0
IsHeldAt table ixl point side = (number : ℕ) × (row : Row) × (route : RouteState) × IsRouteOf table ixl number row route × HoldsPoint row route.phase point side

abbrev pub IsHeldWithAuthority : Table → IxlState → ℕ → Type 0
IsHeldWithAuthority table ixl point = (number : ℕ) × (row : Row) × (route : RouteState) × (side : Side)
    × IsRouteOf table ixl number row route × IsTrue (was_authorised route.phase) × HoldsPoint row route.phase point side

-- a set route uses itself, its entry signal, each of its sections that isn't freed, and each point that it holds, at the
-- side at which it holds it
abbrev pub Uses : ℕ → Row → RouteState → Thing → Type 0
Uses number row route (Section s) = HoldsSection row route.phase s.0
Uses number row route (Point p side) = HoldsPoint row route.phase p.0 side
Uses number row route (Signal s) = IsTrue (is_set route.phase) × (row.entry ≡ s.0)
Uses number row route (Route r) = IsTrue (is_set route.phase) × (number ≡ r.0)

-- a point lies in a section that is closed
abbrev pub LiesInClosed : Table → IxlState → ℕ → Type 0
LiesInClosed table ixl point = At table.point_sections point (λ section. IsClosed ixl.closed (section_thing section))

-- a thing counts as closed for a route that is to be set: it is closed, or it is a point in a closed section at a side at
-- which it isn't known
abbrev pub CountsAsClosed : Table → IxlState → Thing → Type 0
CountsAsClosed table ixl (Point p side) = IsClosed ixl.closed (Point p side) ⊎ (LiesInClosed table ixl p.0 × (Known ixl p.0 side → ⊥))
CountsAsClosed table ixl thing = IsClosed ixl.closed thing

abbrev pub AllClear : Table → IxlState → List ℕ → Type 0
AllClear table ixl sections = All (IsClear table ixl) sections

abbrev pub AllKnown : IxlState → List Need → Type 0
AllKnown ixl needs = All (λ need. Known ixl need.point need.side) needs

-- A request is admissible.
pub record Admissible (now : ℕ) (table : Table) (ixl : IxlState) (number : ℕ) : Type 0 where
  pub row : Row
  pub route : RouteState
  pub known : IsRouteOf table ixl number row route
  pub over : is_holding now ixl ≡ false
  pub resumed : IsTrue ixl.resumed
  pub free : is_set route.phase ≡ false
  pub unblocked : (other : ℕ) → Blocks table ixl other number row → ⊥
  pub clear : AllClear table ixl row.sections
  pub points : (need : Need) → Contains row.needs need → IsAvailable ixl need.point ⊎ IsHeldAt table ixl need.point need.side
  pub ready : IsSignalReady ixl row.entry
  pub at_stop : KnownStop now ixl row.entry
  pub unclosed : (thing : Thing) → Contains (things_used number row) thing → CountsAsClosed table ixl thing → ⊥

-- Stop is due: the route's aspect was given and not withdrawn, and a required point isn't known at its side, a section
-- isn't clear, the signal's link isn't ready, or the route is cancelled.
pub record StopDue (table : Table) (ixl : IxlState) (row : Row) (route : RouteState) : Type 0 where
  pub given : route.phase ≡ phase.Proceeding
  pub why : (((route.cancelled ≡ true) ⊎ (AllKnown ixl row.needs → ⊥)) ⊎ (AllClear table ixl row.sections → ⊥)) ⊎ (IsSignalReady ixl row.entry → ⊥)

-- A move is due: the route is set, isn't cancelled and had no authority; the point is available and isn't known at its
-- side, its own section is clear and isn't closed, no route with authority holds it, and it got no move in this connection
-- since the route was set.
pub record MoveDue (table : Table) (ixl : IxlState) (number : ℕ) (route : RouteState) (need : Need) : Type 0 where
  pub waits : route.phase ≡ phase.Waiting
  pub goes_on : route.cancelled ≡ false
  pub available : IsAvailable ixl need.point
  pub elsewhere : Known ixl need.point need.side → ⊥
  pub over_clear : At table.point_sections need.point (IsClear table ixl)
  pub unheld : IsHeldWithAuthority table ixl need.point → ⊥
  pub once : At ixl.known_points need.point (λ known_point. contains known_point.moved number ≡ false)
  pub unclosed : LiesInClosed table ixl need.point → ⊥

-- Proceed is due.
pub record ProceedDue (now : ℕ) (table : Table) (ixl : IxlState) (row : Row) (route : RouteState) : Type 0 where
  pub waits : route.phase ≡ phase.Waiting
  pub goes_on : route.cancelled ≡ false
  pub points : AllKnown ixl row.needs
  pub clear : AllClear table ixl row.sections
  pub ready : IsSignalReady ixl row.entry
  pub at_stop : KnownStop now ixl row.entry

-- A section may be freed by passage: authority is ended, all sections before it are freed, it was reported occupied since
-- authority was given and is clear, and it is the last or the next was reported occupied since.
pub record Freeable (table : Table) (ixl : IxlState) (row : Row) (route : RouteState) (place : ℕ) : Type 0 where
  pub clock : ℕ
  pub ended : route.phase ≡ phase.Ended clock place
  pub reached : IsTrue (contains route.passage.seen place)
  pub left : contains route.passage.occupied place ≡ false
  pub clear : At row.sections place (IsClear table ixl)
  pub next : (suc place ≡ length row.sections) ⊎ IsTrue (contains route.passage.seen (suc place))

-- A route whose authority ended at this clock lets itself be freed: no section was reported occupied since authority was
-- given, all are clear, and the approach was clear in each step, or the approach time is over.
pub record LetsGo (now : ℕ) (table : Table) (ixl : IxlState) (row : Row) (route : RouteState) (ended_at : ℕ) : Type 0 where
  pub unseen : (place : ℕ) → place < length row.sections → contains route.passage.seen place ≡ false
  pub clear : AllClear table ixl row.sections
  pub approach : (route.approached ≡ false) ⊎ (approach_end ended_at ≤ now)

-- A release is over: the approach time has passed since its clock.
abbrev pub IsReleaseOver : ℕ → RouteState → Type 0
IsReleaseOver now route = (clock : ℕ) × (route.released ≡ Some clock) × (approach_end clock ≤ now)

-- A route may be freed by cancel: it is cancelled, and without authority in this setting at known stop; or its authority
-- is ended, and it lets itself be freed, or its release is over.
abbrev pub FreeByCancel : ℕ → Table → IxlState → Row → RouteState → Type 0
FreeByCancel now table ixl row route = (route.cancelled ≡ true)
    × (((route.phase ≡ phase.Waiting) × KnownStop now ixl row.entry)
    ⊎ ((clock : ℕ) × (freed : ℕ) × (route.phase ≡ phase.Ended clock freed) × (LetsGo now table ixl row route clock ⊎ IsReleaseOver now route)))

-- A part of a step does this where something is due, and else nothing.
pub record DoesWhere (Due : Type 0) (before done after : StepSoFar) : Type 0 where
  pub due : Due → after ≡ done
  pub otherwise : (Due → ⊥) → after ≡ before
