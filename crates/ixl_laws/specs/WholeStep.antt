-- A whole step as a list of turns. In a turn a rule comes to one route of the table, and does there what is due in the
-- state that the turns before it left.
use Rattle.std.specs.Prelude.{◌≡◌, ◌||◌, not, ℕ, suc, true, List, [], ◌∷◌, ◌++◌, length, map}
use Rattle.ixl_state.specs.ixl_spec.Due.{DoesWhere, FreeByCancel, IsRouteOf, MoveDue, ProceedDue, StopDue}
use Rattle.ixl_state.specs.ixl_spec.EndDue.{EndDue, SomeFreeable}
use Rattle.ixl_state.specs.ixl_spec.Rules.{authorised, come_to, freed, one_freed, stopped}
use Rattle.ixl_state.specs.ixl_spec.State.{IxlState, RouteState}
use Rattle.ixl_state.specs.ixl_spec.Step.{Commands, Datagram, Input, Tick, all_clocked, detector_ticking, given, known_point_ticking, known_signal_ticking}
use Rattle.ixl_state.specs.ixl_spec.StepSoFar.{Detector, Node, Point, Signal, StepSoFar, begun_with, empty_outbox, giving_aspect, giving_move, with_route}
use Rattle.ixl_state.specs.ixl_spec.Table.{Need, Row, Table}
use Rattle.ixl_state.specs.ixl_spec.View.{has_authority, is_approach_clear}
use Rattle.ixl_state.specs.ixl_spec.declared.phase.Phase.TheVariants as phase
use Rattle.ixl_state.specs.First.{key_of}
use Rattle.ixl.specs.Interlocking.{InterlockingState}
use Rattle.ixl_laws.specs.Called.{calls_at}
use Rattle.ixl_laws.specs.Nodes.{of_node}

-- ---- the turns of a step

-- each with the number of its route
pub data Turn : Type 0 where
  -- the route looks at its approach
  Watch : ℕ → Turn
  -- rule 1
  Withdraw : ℕ → Turn
  -- rule 2
  EndAuthority : ℕ → Turn
  -- rule 3: a section is freed by passage, and at last none may be freed
  FreeSection : ℕ → Turn
  Passed : ℕ → Turn
  -- rule 4
  FreeCancelled : ℕ → Turn
  -- rule 5, for a point that the route requires
  MovePoint : ℕ → Need → Turn
  -- rule 6
  Proceed : ℕ → Turn
  -- on a tick: the heartbeat and the opening of a controller's link
  Beat : Node → Turn

-- for each of a list, in its order, and with its place
abbrev pub for_each : {A : Type 0} → (ℕ → A → List Turn) → ℕ → List A → List Turn
for_each turns place [] = []
for_each turns place (one ∷ others) = turns place one ++ for_each turns (suc place) others

-- The rules come one after another, each to all routes in table order: the third to each route as often as it has
-- sections, and the fifth for each point that it requires.
abbrev pub turns_of_rules : List Row → List Turn
turns_of_rules rows =
    for_each (λ number row. Watch number ∷ []) 0 rows
    ++ (for_each (λ number row. Withdraw number ∷ []) 0 rows
    ++ (for_each (λ number row. EndAuthority number ∷ []) 0 rows
    ++ (for_each (λ number row. map (λ section. FreeSection number) row.sections ++ Passed number ∷ []) 0 rows
    ++ (for_each (λ number row. FreeCancelled number ∷ []) 0 rows
    ++ (for_each (λ number row. map (MovePoint number) row.needs) 0 rows
    ++ for_each (λ number row. Proceed number ∷ []) 0 rows)))))

-- then a tick comes to each link
abbrev pub turns_of_input : Input → IxlState → List Turn
turns_of_input Tick ixl =
    for_each (λ place one. Beat (Signal place) ∷ []) 0 ixl.known_signals
    ++ (for_each (λ place one. Beat (Point place) ∷ []) 0 ixl.known_points
    ++ for_each (λ place one. Beat (Detector place) ∷ []) 0 ixl.detectors)
turns_of_input (Datagram bytes) ixl = []
turns_of_input (Commands command) ixl = []

-- ---- what is done in a turn

-- a fact of a route of the table, as it is now
abbrev pub AtRoute : Table → ℕ → StepSoFar → (Row → RouteState → Type 0) → Type 0
AtRoute table number part holds = (row : Row) × (route : RouteState) × IsRouteOf table part.ixl number row route × holds row route

-- an approach that isn't clear is noted
abbrev pub approach_seen : Table → IxlState → Row → RouteState → RouteState
approach_seen table ixl row route = record route { approached = route.approached || not (is_approach_clear table ixl row) }

abbrev pub beaten : ℕ → Node → StepSoFar → StepSoFar
beaten now (Signal place) part = known_signal_ticking now place part
beaten now (Point place) part = known_point_ticking now place part
beaten now (Detector place) part = detector_ticking now place part

-- Exactly what is due in the state before a turn is done in it.
abbrev pub DoesItsTurn : ℕ → Table → Turn → StepSoFar → StepSoFar → Type 0
DoesItsTurn now table (Watch number) before after = AtRoute table number before (λ row route.
    DoesWhere (has_authority route.phase ≡ true) before (with_route number (approach_seen table before.ixl row) before) after)
DoesItsTurn now table (Withdraw number) before after = AtRoute table number before (λ row route.
    DoesWhere (StopDue table before.ixl row route) before (stopped now row (with_route number (come_to phase.Withdrawn) before)) after)
DoesItsTurn now table (EndAuthority number) before after = AtRoute table number before (λ row route.
    DoesWhere (EndDue now before.ixl row route) before (with_route number (come_to (phase.Ended now 0)) before) after)
DoesItsTurn now table (FreeSection number) before after = AtRoute table number before (λ row route.
    DoesWhere (SomeFreeable table before.ixl row route) before (with_route number (one_freed row route.phase) before) after)
DoesItsTurn now table (Passed number) before after = AtRoute table number before (λ row route.
    (after ≡ before) × (SomeFreeable table before.ixl row route → ⊥))
DoesItsTurn now table (FreeCancelled number) before after = AtRoute table number before (λ row route.
    DoesWhere (FreeByCancel now table before.ixl row route) before (with_route number freed before) after)
DoesItsTurn now table (MovePoint number need) before after = AtRoute table number before (λ row route.
    DoesWhere (MoveDue table before.ixl number route need) before (giving_move now need.point need.side before) after)
DoesItsTurn now table (Proceed number) before after = AtRoute table number before (λ row route.
    DoesWhere (ProceedDue now table before.ixl row route) before
    (giving_aspect now row.entry row.aspect (with_route number (authorised table before.ixl row) before)) after)
DoesItsTurn now table (Beat node) before after = after ≡ beaten now node before

-- ---- the whole step

-- a turn that was taken, with the state before it and the state after it
pub record TurnTaken : Type 0 where
  pub turn : Turn
  pub before : StepSoFar
  pub after : StepSoFar

-- Turns follow one another from one state to another: each begins where the one before it ended, and does what is due
-- there.
abbrev pub Follow : ℕ → Table → StepSoFar → List TurnTaken → StepSoFar → Type 0
Follow now table begin [] end = end ≡ begin
Follow now table begin (first ∷ others) end =
    (first.before ≡ begin) × DoesItsTurn now table first.turn first.before first.after × Follow now table first.after others end

-- what the clock left, and what the input left then
abbrev pub clock_left : ℕ → InterlockingState → StepSoFar
clock_left now old = begun_with (all_clocked now old.state.ixl) empty_outbox

abbrev pub heard : ℕ → Input → InterlockingState → StepSoFar
heard now input old = given now old.state.sited.table (key_of old.state.sited.site) input (clock_left now old)

-- A whole step is these turns. They begin in what the clock and the input left. What the last one left is kept and handed
-- out, and the calls of the links are those made up to there.
pub record WholeStep (now : ℕ) (input : Input) (old new : InterlockingState) : Type 0 where
  pub turns : List TurnTaken
  pub are : map (λ (taken : TurnTaken). taken.turn) turns ≡ turns_of_rules old.state.sited.table.rows ++ turns_of_input input old.state.ixl
  pub last : StepSoFar
  pub follow : Follow now old.state.sited.table (heard now input old) turns last
  pub ixl : new.state.ixl ≡ last.ixl
  pub outbox : new.outbox ≡ last.outbox
  pub calls : (node : Node) → calls_at now input old node ≡ of_node node last.calls

-- What is kept fits the table: a route is kept of each row, and its passage leads over the sections of the row.
pub record Fits (table : Table) (ixl : IxlState) : Type 0 where
  pub each : length ixl.routes ≡ length table.rows
  pub passages : (number : ℕ) (row : Row) (route : RouteState) → IsRouteOf table ixl number row route → route.passage.sections ≡ length row.sections
