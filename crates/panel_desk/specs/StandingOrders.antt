-- What a panel does by itself, so that closing a page changes nothing. All of it comes to requests that routes be set, which the
-- interlocking judges as any others.
--
--     automatic R     the route is *automatic*: it waits whenever it is free. So it is set, and set again when a train has passed
--     queue R         the route *waits* until it is set, behind those that wait already
--     manual R        it is neither automatic nor waits
--
-- Whoever cancels or releases a route at this panel makes it manual, so that it isn't set again against that; a cancel of all makes all
-- manual. So does an interlocking that is told as holding, or as waiting for resume: it was made anew, and then a person sets routes, with
-- open eyes. Only what is told counts: a panel whose connection was down until another operator had resumed is told neither, and all goes
-- on.
--
-- A route that waits leaves once it is told as set, whoever set it.
--
-- The routes that wait are tried in their order. One is tried where nothing that is told stands against it (`InTheWay`), each that waits
-- longer and conflicts with it is hindered, and it wasn't tried within the last second. So a route keeps those waiting that wait behind it
-- and conflict with it, and isn't overtaken, as long as nothing but set routes stands against it. One that is hindered, by an occupied
-- section as by what is closed, keeps none waiting: the train that stands in its way may leave by a route that waits behind it.
--
-- Where the node of the interlocking doesn't answer, nothing is known: then nothing is tried, and all stay as they are.
use Rattle.std.specs.Prelude.{◌≡◌, ◌<◌, ◌==◌, ◌-◌, ◌&&◌, not, ℕ, suc, nat_le, nat_lt, Bool, true, false, if◌then◌else◌, List, [], ◌∷◌, ◌++◌, filter, length, replicate, slice_get, slice_set, take, Option, Some, None}
use Rattle.std.specs.List.{Contains, list_any, position}
use Rattle.std.specs.Option.{option_map}
use Rattle.node_lines.specs.control_table.Table.{Conflict}
use Rattle.node_lines.specs.layout.Entries.{Site}
use Rattle.node_lines.specs.layout.declared.ids.RouteId.{RouteId}
use Rattle.node_lines.specs.ixl_spec.declared.command.Command.TheVariants.{Cancel, Release}
use Rattle.node_lines.specs.simulator_event.declared.event.Event.{Event}
use Rattle.node_lines.specs.simulator_event.declared.event.Event.TheVariants.{Request}
use Rattle.node_lines.specs.declared.operator_line.Known.TheVariants.{Link, Route}
use Rattle.node_lines.specs.declared.operator_line.LinkState.TheVariants.{Lost}
use Rattle.panel_desk.specs.InTheWay.{IsHindered, StandsAgainst}
use Rattle.panel_desk.specs.declared.panel_command.PanelCommand.{PanelCommand}
use Rattle.panel_desk.specs.declared.panel_command.PanelCommand.TheVariants as wants
use Rattle.panel_desk.specs.declared.panel_line.Mode.TheVariants.{Holding, WaitingForResume}
use Rattle.panel_desk.specs.declared.panel_line.PanelLine.{PanelLine}
use Rattle.panel_desk.specs.declared.panel_line.PanelLine.TheVariants as shows
use Rattle.panel_desk.specs.declared.standing_order.StandingOrder.{StandingOrder}
use Rattle.panel_desk.specs.declared.standing_order.StandingOrder.TheVariants as order
use Rattle.panel_desk.specs.declared.standing_orders.Waiting.{Waiting}

pub record StandingView : Type 0 where
  -- of each route, whether it is automatic
  pub automatic : List Bool
  -- those that wait, the one that waits longest first
  pub waiting : List Waiting

-- no route of so many is automatic, and none waits
abbrev pub none_standing : ℕ → StandingView
none_standing routes = record { automatic = replicate routes false; waiting = [] }

-- ---- what an operator asks for

-- a flag is set; nothing is where there is none at this place
abbrev pub flag_set : ℕ → Bool → List Bool → List Bool
flag_set place value flags = if nat_lt place (length flags) then slice_set flags place value else flags

abbrev pub is_of : RouteId → Waiting → Bool
is_of route one = one.route.0 == route.0

abbrev pub is_waiting : RouteId → List Waiting → Bool
is_waiting route waiting = list_any (is_of route) waiting

-- a route waits behind the others, unless it waits already
abbrev pub waits_with : RouteId → List Waiting → List Waiting
waits_with route waiting = if is_waiting route waiting then waiting else waiting ++ record { route = route; tried = None } ∷ []

-- it is neither automatic nor waits
abbrev pub dropped : RouteId → StandingView → StandingView
dropped route orders = record { automatic = flag_set route.0 false orders.automatic; waiting = filter (λ one. not (is_of route one)) orders.waiting }

abbrev pub obeyed_order : StandingOrder → StandingView → StandingView
obeyed_order (order.Automatic route) orders = record orders { automatic = flag_set route.0 true orders.automatic }
obeyed_order (order.Queue route) orders = record orders { waiting = waits_with route orders.waiting }
obeyed_order (order.Manual route) orders = dropped route orders

-- what an operator does by hand to a route
abbrev pub obeyed_event : Event → StandingView → StandingView
obeyed_event (Request (Cancel route)) orders = dropped route orders
obeyed_event (Request (Release route)) orders = dropped route orders
obeyed_event other orders = orders

abbrev pub obeyed : PanelCommand → StandingView → StandingView
obeyed (wants.Stand order) orders = obeyed_order order orders
obeyed (wants.Event event) orders = obeyed_event event orders
obeyed wants.CancelAll orders = none_standing (length orders.automatic)
obeyed (wants.Disturb disturbance) orders = orders

abbrev pub obeyed_all : List PanelCommand → StandingView → StandingView
obeyed_all [] orders = orders
obeyed_all (command ∷ more) orders = obeyed_all more (obeyed command orders)

-- ---- what is told

-- the interlocking takes no requests
abbrev pub tells_shut : PanelLine → Bool
tells_shut (shows.Interlocking Holding) = true
tells_shut (shows.Interlocking WaitingForResume) = true
tells_shut other = false

abbrev pub is_shut_in : List PanelLine → Bool
is_shut_in lines = list_any tells_shut lines

-- its node doesn't answer
abbrev pub tells_apart : PanelLine → Bool
tells_apart (shows.Known (Link node Lost)) = node.0 == 0
tells_apart other = false

abbrev pub is_apart_in : List PanelLine → Bool
is_apart_in lines = list_any tells_apart lines

-- a route is set
abbrev pub tells_set : PanelLine → RouteId → Bool
tells_set (shows.Known (Route other is_set)) route = is_set && (other.0 == route.0)
tells_set other route = false

abbrev pub is_set_in : List PanelLine → RouteId → Bool
is_set_in lines route = list_any (λ line. tells_set line route) lines

-- ---- who waits

-- those that are set leave
abbrev pub left : List PanelLine → List Waiting → List Waiting
left lines waiting = filter (λ one. not (is_set_in lines one.route)) waiting

-- an automatic route that is free begins to wait
abbrev pub begins_if : Bool → RouteId → List Waiting → List Waiting
begins_if true route waiting = waits_with route waiting
begins_if false route waiting = waiting

abbrev pub begun_from : List PanelLine → ℕ → List Bool → List Waiting → List Waiting
begun_from lines place [] waiting = waiting
begun_from lines place (is_automatic ∷ more) waiting =
    begun_from lines (suc place) more (begins_if (is_automatic && not (is_set_in lines (record { 0 = place }))) (record { 0 = place }) waiting)

abbrev pub begun : List PanelLine → List Bool → List Waiting → List Waiting
begun lines automatic waiting = begun_from lines 0 automatic waiting

-- those that wait once routes that are set have left, and automatic ones that are free have come
abbrev pub now_waiting : List PanelLine → StandingView → List Waiting
now_waiting lines orders = begun lines orders.automatic (left lines orders.waiting)

-- ---- which is tried

-- 1 s has passed since it was tried, if it was
abbrev pub rested : Option ℕ → ℕ → Bool
rested None now = true
rested (Some tried) now = nat_le 1000 (now - tried)

-- The route at a place among those that wait is tried: the layout has it, it wasn't tried within the last second, nothing that is told
-- stands against it, and each that waits longer and conflicts with it is hindered.
pub record MayBeTried (site : Site) (lines : List PanelLine) (now : ℕ) (earlier : List Waiting) (one : Waiting) : Type 0 where
  pub there : one.route.0 < length site.routes
  pub rested_is : rested one.tried now ≡ true
  pub unopposed : (line : PanelLine) → Contains lines line → StandsAgainst site one.route line → ⊥
  pub first : (other : Waiting) → Contains earlier other → Conflict site one.route other.route → IsHindered site lines other.route

abbrev pub IsTriedOf : Site → List PanelLine → ℕ → List Waiting → Option Waiting → ℕ → Type 0
IsTriedOf site lines now waiting (Some one) place = MayBeTried site lines now (take place waiting) one
IsTriedOf site lines now waiting None place = ⊥

abbrev pub IsTried : Site → List PanelLine → ℕ → List Waiting → ℕ → Type 0
IsTried site lines now waiting place = IsTriedOf site lines now waiting (slice_get waiting place) place

-- Those that wait behind earlier ones, each in its turn: it is tried, and that is noted; or it isn't, and stays as it is. These routes are
-- tried then, in this order, and so they wait afterwards.
pub data EachTried (site : Site) (lines : List PanelLine) (now : ℕ) : List Waiting → List Waiting → List RouteId → List Waiting → Type 0 where
  ends : {earlier : List Waiting} → EachTried site lines now earlier [] [] []
  tries : {one : Waiting} {earlier more later : List Waiting} {routes : List RouteId} → MayBeTried site lines now earlier one
      → EachTried site lines now (earlier ++ one ∷ []) more routes later
      → EachTried site lines now earlier (one ∷ more) (one.route ∷ routes) (record one { tried = Some now } ∷ later)
  passes : {one : Waiting} {earlier more later : List Waiting} {routes : List RouteId} → (MayBeTried site lines now earlier one → ⊥)
      → EachTried site lines now (earlier ++ one ∷ []) more routes later
      → EachTried site lines now earlier (one ∷ more) routes (one ∷ later)

abbrev pub TriedFrom : Site → List PanelLine → ℕ → List Waiting → List RouteId → List RouteId → List Waiting → Type 0
TriedFrom site lines now waiting before after later = (routes : List RouteId) × (after ≡ before ++ routes) × EachTried site lines now [] waiting routes later

-- ---- a turn

abbrev pub TriedIf : Bool → Bool → Site → List PanelLine → ℕ → StandingView → List RouteId → StandingView → Type 0
TriedIf true apart site lines now old routes new = (routes ≡ []) × (new ≡ none_standing (length old.automatic))
TriedIf false true site lines now old routes new = (routes ≡ []) × (new ≡ old)
TriedIf false false site lines now old routes new =
    (later : List Waiting) × EachTried site lines now [] (now_waiting lines old) routes later × (new ≡ record old { waiting = later })

-- By what is told at a reading these routes are tried to be set, in this order, and these orders stand afterwards.
abbrev pub Tried : Site → List PanelLine → ℕ → StandingView → List RouteId → StandingView → Type 0
Tried site lines now old routes new = TriedIf (is_shut_in lines) (is_apart_in lines) site lines now old routes new

-- ---- what is shown

-- the place of a route among those that wait, from 1 on
abbrev pub place_among : RouteId → List Waiting → Option ℕ
place_among route waiting = option_map suc (position (is_of route) waiting)

abbrev pub lines_from : ℕ → List Bool → List Waiting → List PanelLine
lines_from place [] waiting = []
lines_from place (is_automatic ∷ more) waiting =
    shows.Automatic (record { 0 = place }) is_automatic ∷ shows.Waits (record { 0 = place }) (place_among (record { 0 = place }) waiting)
    ∷ lines_from (suc place) more waiting

-- of each route whether it is automatic, and its place among those that wait
abbrev pub standing_lines : StandingView → List PanelLine
standing_lines orders = lines_from 0 orders.automatic orders.waiting
