-- The machine of a station: signals, points, routes, and the interlocking's hold after a restart. It has no clock, no
-- numbers of datagrams and no network.
use Rattle.std.specs.Prelude.{ℕ, Bool, true, if◌then◌else◌}
use Rattle.simulator_machine.specs.Lists.{changed_at}
use Rattle.simulator_machine.specs.Link.{Closes}
use Rattle.simulator_machine.specs.Signal.{Signal, SignalLink, signal_after}
use Rattle.simulator_machine.specs.Point.{Point, PointLink, point_after}
use Rattle.simulator_machine.specs.Route.{Phase, Free, has_authority}

pub record Machine : Type 0 where
  pub signals : ℕ → Signal
  pub points : ℕ → Point
  pub routes : ℕ → Phase
  -- the interlocking was made anew, and its hold isn't over
  pub holding : Bool
  -- the routes that were held when it was last made anew outside a hold
  pub frozen : ℕ → Bool

-- a route is held: in the hold it is frozen, and otherwise it has authority
abbrev pub is_held : Machine → ℕ → Bool
is_held machine route = if machine.holding then machine.frozen route else has_authority (machine.routes route)

abbrev pub with_signal : ℕ → Signal → Machine → Machine
with_signal place signal machine = record machine { signals = changed_at place signal machine.signals }

abbrev pub with_point : ℕ → Point → Machine → Machine
with_point place point machine = record machine { points = changed_at place point machine.points }

abbrev pub with_route : ℕ → Phase → Machine → Machine
with_route place phase machine = record machine { routes = changed_at place phase machine.routes }

-- the interlocking is made anew: its links are out of any connection, it knows of no routes, and it holds
abbrev pub made_anew : Machine → Machine
made_anew machine = record {
  signals = λ place. signal_after (SignalLink Closes) (machine.signals place);
  points = λ place. point_after (PointLink Closes) (machine.points place);
  routes = λ route. Free;
  holding = true;
  frozen = is_held machine;
}
