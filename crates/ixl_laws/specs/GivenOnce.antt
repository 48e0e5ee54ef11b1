-- What turns give, and that it is given once.
use Rattle.std.specs.Prelude.{◌≡◌, ◌<◌, ℕ, List, [], ◌∷◌, ◌++◌, map, Some, slice_get}
use Rattle.ixl_state.specs.sci_telegram.Telegrams.{writing}
use Rattle.ixl_state.specs.ixl_client.Client.{ClientState}
use Rattle.ixl_state.specs.ixl_client.ClientSoFar.{LinkCall}
use Rattle.ixl_state.specs.ixl_client.ItemsSaid.{items_sent}
use Rattle.ixl_state.specs.ixl_client.Step.{message_of, telegram_to}
use Rattle.ixl_state.specs.ixl_client.declared.command.Command.{Command}
use Rattle.ixl_state.specs.ixl_spec.Due.{IsRouteOf, MoveDue, ProceedDue, StopDue}
use Rattle.ixl_state.specs.ixl_spec.State.{RouteState}
use Rattle.ixl_state.specs.ixl_spec.Step.{Accepted, Commands, Input, Reply}
use Rattle.ixl_state.specs.ixl_spec.StepSoFar.{Node, StepSoFar}
use Rattle.ixl_state.specs.ixl_spec.Table.{Need, Row, Table}
use Rattle.ixl_state.specs.ixl_spec.declared.command.Command.TheVariants as commands
use Rattle.ixl.specs.Interlocking.{HasStepped, InterlockingState}
use Rattle.ixl_laws.specs.WholeStep.{MovePoint, Proceed, TurnTaken, WholeStep, Withdraw}

-- In a turn a route is withdrawn: stop is due, and so it is given where the signal's link is ready.
pub record GivesStop (table : Table) (number : ℕ) (taken : TurnTaken) : Type 0 where
  pub turn : taken.turn ≡ Withdraw number
  pub row : Row
  pub route : RouteState
  pub is : IsRouteOf table taken.before.ixl number row route
  pub due : StopDue table taken.before.ixl row route

-- A point is given a move, for some route.
pub record GivesMove (table : Table) (point : ℕ) (taken : TurnTaken) : Type 0 where
  pub number : ℕ
  pub need : Need
  pub turn : taken.turn ≡ MovePoint number need
  pub of_point : need.point ≡ point
  pub row : Row
  pub route : RouteState
  pub is : IsRouteOf table taken.before.ixl number row route
  pub due : MoveDue table taken.before.ixl number route need

-- The signal of a route is given the route's aspect.
pub record GivesProceed (now : ℕ) (table : Table) (number : ℕ) (taken : TurnTaken) : Type 0 where
  pub turn : taken.turn ≡ Proceed number
  pub row : Row
  pub route : RouteState
  pub is : IsRouteOf table taken.before.ixl number row route
  pub due : ProceedDue now table taken.before.ixl row route

-- after a turn of one kind there is none of another
abbrev pub NoneBehind : (TurnTaken → Type 0) → (TurnTaken → Type 0) → List TurnTaken → Type 0
NoneBehind One Another turns = (earlier later : ℕ) (one another : TurnTaken) → earlier < later
    → slice_get turns earlier ≡ Some one → slice_get turns later ≡ Some another → One one → Another another → ⊥

-- ---- as telegrams

-- One telegram is given to a controller's link, and no other link is called.
pub record GivesTelegram (node : Node) (item : List ℕ) (before after : StepSoFar) : Type 0 where
  pub calls : List LinkCall
  pub made : after.calls ≡ before.calls ++ map (λ call. (node, call)) calls
  pub sent : items_sent calls ≡ item ∷ []

-- the telegram of a command to the controller of a client
abbrev pub telegram_for : ClientState → Command → List ℕ
telegram_for client command = writing (telegram_to client.peer (message_of command))

-- ---- over many steps

-- a step that was made
pub record StepTaken : Type 0 where
  pub now : ℕ
  pub input : Input
  pub old : InterlockingState
  pub new : InterlockingState
  pub answer : Reply
  pub made : HasStepped now input old new answer
  pub whole : WholeStep now input old new

-- each begins with what the one before it left; its datagrams may have been taken out between them
abbrev pub OneAfterAnother : StepTaken → List StepTaken → Type 0
OneAfterAnother before [] = Unit {0}
OneAfterAnother before (next ∷ others) = (next.old.state ≡ before.new.state) × OneAfterAnother next others

-- in some turn of a step proceed is given for a route
abbrev pub ProceedGiven : ℕ → StepTaken → Type 0
ProceedGiven number step = (place : ℕ) × (taken : TurnTaken) × (slice_get step.whole.turns place ≡ Some taken) × GivesProceed step.now step.old.state.sited.table number taken

-- a request for a route is accepted
abbrev pub SetsAnew : ℕ → StepTaken → Type 0
SetsAnew number step = (step.input ≡ Commands (commands.Request (record { 0 = number }))) × (step.answer ≡ Accepted)

-- in none of these steps
abbrev pub InNone : (StepTaken → Type 0) → List StepTaken → Type 0
InNone Happens steps = (place : ℕ) (step : StepTaken) → slice_get steps place ≡ Some step → Happens step → ⊥
