-- What the rules of `StandingOrders` come to, over the commands and turns of a panel.
use Rattle.std.specs.Prelude.{◌≡◌, ◌==◌, ℕ, Bool, true, false, List, [], ◌∷◌, ◌++◌, Some, slice_get}
use Rattle.std.specs.List.{Contains}
use Rattle.node_lines.specs.layout.Entries.{Site}
use Rattle.node_lines.specs.layout.declared.ids.RouteId.{RouteId}
use Rattle.node_lines.specs.ixl_spec.declared.command.Command.TheVariants.{Cancel, Release}
use Rattle.node_lines.specs.simulator_event.declared.event.Event.TheVariants.{Request}
use Rattle.panel_desk.specs.InTheWay.{StandsAgainst, tells_set_route}
use Rattle.panel_desk.specs.declared.panel_command.PanelCommand.{PanelCommand}
use Rattle.panel_desk.specs.declared.panel_command.PanelCommand.TheVariants as wants
use Rattle.panel_desk.specs.declared.panel_line.PanelLine.{PanelLine}
use Rattle.panel_desk.specs.declared.standing_order.StandingOrder.TheVariants as order
use Rattle.panel_desk.specs.declared.standing_orders.Waiting.{Waiting}
use Rattle.panel_desk.specs.StandingOrders.{StandingView, Tried, is_waiting, obeyed}

-- ---- those that wait

-- no route waits twice
abbrev pub EachOnce : List Waiting → Type 0
EachOnce [] = Unit {0}
EachOnce (one ∷ more) = (is_waiting one.route more ≡ false) × EachOnce more

-- of those that wait, one waits longer than a route
pub record WaitsLonger (waiting : List Waiting) (longer route : RouteId) : Type 0 where
  pub before : List Waiting
  pub one : Waiting
  pub more : List Waiting
  pub split : waiting ≡ before ++ one ∷ more
  pub is_one : one.route ≡ route
  pub is_before : is_waiting longer before ≡ true

-- if anything that is told stands against a route, it is a set route
abbrev pub OnlySetRoutesAgainst : Site → List PanelLine → RouteId → Type 0
OnlySetRoutesAgainst site lines route = (line : PanelLine) → Contains lines line → StandsAgainst site route line → tells_set_route line ≡ true

-- a route is neither automatic nor waits
pub record IsManual (route : RouteId) (orders : StandingView) : Type 0 where
  pub not_automatic : slice_get orders.automatic route.0 ≡ Some true → ⊥
  pub not_waiting : is_waiting route orders.waiting ≡ false

-- ---- commands

-- a route is cancelled or released, alone or with all others, or is to be manual
abbrev pub makes_manual : RouteId → PanelCommand → Bool
makes_manual route (wants.Event (Request (Cancel other))) = other.0 == route.0
makes_manual route (wants.Event (Request (Release other))) = other.0 == route.0
makes_manual route wants.CancelAll = true
makes_manual route (wants.Stand (order.Manual other)) = other.0 == route.0
makes_manual route other = false

-- a route is to be automatic, or to wait
abbrev pub asks_for : RouteId → PanelCommand → Bool
asks_for route (wants.Stand (order.Automatic other)) = other.0 == route.0
asks_for route (wants.Stand (order.Queue other)) = other.0 == route.0
asks_for route other = false

-- ---- commands and turns

-- Orders lead to others, over such commands as may come, and over turns with whatever is told at whatever reading.
pub data LeadsTo (site : Site) (may : PanelCommand → Bool) (first : StandingView) : StandingView → Type 0 where
  here : LeadsTo site may first first
  obeys : {orders : StandingView} (command : PanelCommand) → LeadsTo site may first orders → may command ≡ true → LeadsTo site may first (obeyed command orders)
  turns : {orders new : StandingView} (lines : List PanelLine) (now : ℕ) (routes : List RouteId) → LeadsTo site may first orders
      → Tried site lines now orders routes new → LeadsTo site may first new
