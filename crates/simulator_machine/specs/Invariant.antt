-- What every move keeps, and what the promise follows from. Nothing in it is about how many signals, points or routes
-- there are.
use Rattle.std.specs.Prelude.{◌≡◌, ◌≢◌, ◌+◌, ◌≤◌, ℕ, true, [], length, Some, None}
use Rattle.simulator_machine.specs.Lists.{last_of}
use Rattle.simulator_machine.specs.Link.{Down, Up, Before, In, Gone, Link}
use Rattle.simulator_machine.specs.Signal.{Aspect, Signal, IsLive}
use Rattle.simulator_machine.specs.Point.{Side, Point, moves_given, reports_made, StandsUndriven}
use Rattle.simulator_machine.specs.Table.{Table}
use Rattle.simulator_machine.specs.Route.{Free, is_whole}
use Rattle.simulator_machine.specs.Machine.{Machine, is_held}
use Rattle.simulator_machine.specs.Promise.{IsHeldFor}

pub record IsLinkSound (link : Link) : Type 0 where
  -- when the client's quiet time is over, no server is in the connection
  pub quiet : link.client ≡ Down → link.server ≢ In
  -- when the client is up, the server has entered the connection
  pub up : link.client ≡ Up → link.server ≢ Before

pub record IsSignalSound (signal : Signal) : Type 0 where
  pub link : IsLinkSound signal.link
  -- in a connection that the controller hasn't entered it acted on no aspect, and none was given
  pub none_done : signal.link.server ≡ Before → signal.done ≡ []
  pub none_given : signal.link.server ≡ Before → signal.flight ≡ []
  -- until the controller leaves, no more aspects are confirmed than it acted on
  pub confirmed : signal.link.server ≢ Gone → signal.confirmed ≤ length signal.done

pub record IsPointSound (point : Point) : Type 0 where
  pub link : IsLinkSound point.link
  -- in a connection that the controller hasn't entered no move was given, and no report made
  pub none_given : point.link.server ≡ Before → moves_given point ≡ 0
  pub none_made : point.link.server ≡ Before → reports_made point ≡ []
  -- there is at most one report more than moves given, and at most one more than moves taken
  pub given : length (reports_made point) ≤ moves_given point + 1
  pub taken : point.link.server ≡ In → length (reports_made point) ≤ point.taken + 1
  -- where every move given has its report, and the last report is a side, the point stands there
  pub last : length (reports_made point) ≡ moves_given point + 1 → (side : Side) → last_of None (reports_made point) ≡ Some side → point.position ≡ Some side
  -- a point is driven only by a controller in the connection that still owes the report of a move that it took
  pub driver : point.driven ≡ true → point.link.server ≡ In
  pub owing : point.driven ≡ true → length (reports_made point) ≤ point.taken

pub record IsSettled (side : Side) (point : Point) : Type 0 where
  -- the point stands undriven at the side
  pub stands : StandsUndriven side point
  -- no move is under way that could still be taken
  pub unmoved : point.link.server ≢ Gone → point.flight ≡ 0

-- a route is held for the signal, and the aspect is this route's
abbrev pub IsBacked : Table → Machine → (signal : ℕ) → Aspect → Type 0
IsBacked table machine signal aspect = (route : ℕ) × IsHeldFor table machine signal route × (table.aspect route ≡ aspect)

pub record Invariant (table : Table) (machine : Machine) : Type 0 where
  -- each signal and each point is sound
  pub signals : (signal : ℕ) → IsSignalSound (machine.signals signal)
  pub points : (point : ℕ) → IsPointSound (machine.points point)
  -- in the hold no route is set
  pub unset : machine.holding ≡ true → (route : ℕ) → machine.routes route ≡ Free
  -- two routes that are set, and of which nothing is freed, don't conflict
  pub set_apart : (a b : ℕ) → a ≢ b → is_whole (machine.routes a) ≡ true → is_whole (machine.routes b) ≡ true → table.conflict a b ≡ true → ⊥
  -- two frozen routes don't conflict
  pub frozen_apart : machine.holding ≡ true → (a b : ℕ) → a ≢ b → machine.frozen a ≡ true → machine.frozen b ≡ true → table.conflict a b ≡ true → ⊥
  -- each aspect other than stop that a signal shows or could still show is that of a route held for it
  pub backed : (signal : ℕ) (aspect : Aspect) → IsLive aspect (machine.signals signal) → IsBacked table machine signal aspect
  -- each point that a held route requires is settled at the required side
  pub settled : (route point : ℕ) (side : Side) → is_held machine route ≡ true → table.requires route point side ≡ true → IsSettled side (machine.points point)
