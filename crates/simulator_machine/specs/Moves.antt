-- What can happen to the machine, when, and what it leaves.
use Rattle.std.specs.Prelude.{◌≡◌, ◌≢◌, ℕ, true, false}
use Rattle.simulator_machine.specs.Link.{Up, In}
use Rattle.simulator_machine.specs.Signal.{SignalMove, SignalMay, signal_after, aspect_given, HasStopConfirmed, IsAtKnownStop}
use Rattle.simulator_machine.specs.Point.{Side, PointMove, PointMay, point_after, move_given, IsKnownAt}
use Rattle.simulator_machine.specs.Table.{Table}
use Rattle.simulator_machine.specs.Route.{Free, Waiting, Authorised, Ended, has_authority, has_ended, is_whole}
use Rattle.simulator_machine.specs.Machine.{Machine, is_held, with_signal, with_point, with_route, made_anew}

-- what can happen
pub data Move : Type 0 where
  -- at one signal, or at one point
  AtSignal : (signal : ℕ) → SignalMove → Move
  AtPoint : (point : ℕ) → PointMove → Move
  -- the interlocking gives a move to a point
  GivesMove : (point : ℕ) → Move
  -- it sets a route
  Sets : (route : ℕ) → Move
  -- it gives authority to a route
  Authorises : (route : ℕ) → Move
  -- it gives a route's aspect to the route's signal
  GivesAspect : (route : ℕ) → Move
  -- it ends the authority of a route
  Ends : (route : ℕ) → Move
  -- it frees a part of a route, and the whole of it
  FreesPart : (route : ℕ) → Move
  Frees : (route : ℕ) → Move
  -- it is made anew
  Restarts : Move
  -- its hold ends
  HoldEnds : Move

-- A route may be set: the interlocking doesn't hold, the route isn't set, and no route conflicts that is set and of
-- which nothing is freed.
pub record MaySet (table : Table) (machine : Machine) (route : ℕ) : Type 0 where
  pub resumed : machine.holding ≡ false
  pub free : machine.routes route ≡ Free
  pub unblocked : (other : ℕ) → is_whole (machine.routes other) ≡ true → table.conflict route other ≡ true → ⊥

-- each point that the route requires is known at that side
abbrev pub AllKnown : Table → Machine → ℕ → Type 0
AllKnown table machine route = (point : ℕ) (side : Side) → table.requires route point side ≡ true → IsKnownAt side (machine.points point)

-- no route that is held requires the point
abbrev pub NoneHolds : Table → Machine → ℕ → Type 0
NoneHolds table machine point = (route : ℕ) (side : Side) → is_held machine route ≡ true → table.requires route point side ≡ true → ⊥

-- when it can happen
abbrev pub May : Table → Machine → Move → Type 0
May table machine (AtSignal place move) = SignalMay move (machine.signals place)
May table machine (AtPoint place move) = PointMay move (machine.points place)
May table machine (GivesMove place) = ((machine.points place).link.client ≡ Up) × NoneHolds table machine place
May table machine (Sets route) = MaySet table machine route
May table machine (Authorises route) = (machine.routes route ≡ Waiting) × AllKnown table machine route
May table machine (GivesAspect route) = (machine.routes route ≡ Authorised) × HasStopConfirmed (machine.signals (table.entry route))
May table machine (Ends route) = (machine.routes route ≡ Authorised) × IsAtKnownStop (machine.signals (table.entry route))
May table machine (FreesPart route) = has_ended (machine.routes route) ≡ true
May table machine (Frees route) = has_authority (machine.routes route) ≡ false
May table machine Restarts = Unit {0}
May table machine HoldEnds = (place : ℕ) → (machine.signals place).link.server ≢ In

-- the machine after it
abbrev pub after : Table → Machine → Move → Machine
after table machine (AtSignal place move) = with_signal place (signal_after move (machine.signals place)) machine
after table machine (AtPoint place move) = with_point place (point_after move (machine.points place)) machine
after table machine (GivesMove place) = with_point place (move_given (machine.points place)) machine
after table machine (Sets route) = with_route route Waiting machine
after table machine (Authorises route) = with_route route Authorised machine
after table machine (GivesAspect route) =
    with_signal (table.entry route) (aspect_given (table.aspect route) (machine.signals (table.entry route))) machine
after table machine (Ends route) = with_route route (Ended true) machine
after table machine (FreesPart route) = with_route route (Ended false) machine
after table machine (Frees route) = with_route route Free machine
after table machine Restarts = made_anew machine
after table machine HoldEnds = record machine { holding = false }
