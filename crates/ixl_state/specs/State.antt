-- The state of an interlocking, beside the control table that it was made from.
use Rattle.std.specs.Prelude.{◌≡◌, ℕ, ◌+◌, ◌≤◌, List, length}
use Rattle.ixl_spec.specs.rasta_core.Outbox.{OutboxState}
use Rattle.ixl_spec.specs.StepSoFar.{Leads, StepSoFar, with_one}
use Rattle.ixl_spec.specs.State.{IxlState, RouteState, changed}
use Rattle.ixl_spec.specs.Step.{node_hearing, node_of}
use Rattle.ixl_spec.specs.Table.{Row, Table}
use Rattle.ixl_table.specs.Locks.{IsKeptRoute}
use Rattle.ixl_table.specs.Table.{SitedTable}
use Rattle.ixl_known.specs.Field as field
use Rattle.ixl_known.specs.Field.{FieldState, Rest}

pub record StateView : Type 0 where
  pub sited : SitedTable
  pub ixl : IxlState

-- its controllers
abbrev pub field_of : StateView → FieldState
field_of state = record {
  known_signals = state.ixl.known_signals;
  known_points = state.ixl.known_points;
  detectors = state.ixl.detectors;
  reporters = state.sited.table.reporters;
}

-- and what is kept beside them
abbrev pub rest_of : StateView → Rest
rest_of state = record { routes = state.ixl.routes; created = state.ixl.created; resumed = state.ixl.resumed; closed = state.ixl.closed }

-- the clock of no link has fallen
abbrev pub MayStepAll : ℕ → StateView → Type 0
MayStepAll now state = field.MayStepAll now (field_of state)

-- every link is at this clock
abbrev pub AllAt : ℕ → StateView → Type 0
AllAt now state = field.AllAt now (field_of state)

-- a fact of a route of the table, and of what is kept of it
abbrev pub AtRoute : StateView → ℕ → (Row → RouteState → Type 0) → Type 0
AtRoute state number holds = (row : Row) (route : RouteState) → IsKeptRoute state.sited.table state.ixl.routes number row route → holds row route

-- a route of the table is kept
abbrev pub HasRoute : StateView → ℕ → Type 0
HasRoute state number = (row : Row) × (route : RouteState) × IsKeptRoute state.sited.table state.ixl.routes number row route

-- one route is changed, and nothing else
abbrev pub route_changed : (RouteState → RouteState) → ℕ → StateView → StateView
route_changed change number state = record state { ixl = record state.ixl { routes = changed change number state.ixl.routes } }

-- A part of a step at a clock reading leads from one state to another, and hands out at most so many datagrams.
pub record Goes (now most : ℕ) (does : StepSoFar → StepSoFar) (old : StateView) (box : OutboxState) (new : StateView) (out : OutboxState) : Type 0 where
  pub leads : Leads does old.ixl box new.ixl out
  pub sited : new.sited ≡ old.sited
  pub clock : AllAt now new
  pub capacity : out.capacity ≡ box.capacity
  pub few : length out.datagrams ≤ length box.datagrams + most

-- a datagram comes from the controller with this identity
abbrev pub heard_from : ℕ → Table → List ℕ → ℕ → StepSoFar → StepSoFar
heard_from now table bytes id part = with_one (node_of id part.ixl) (node_hearing now table bytes) part
