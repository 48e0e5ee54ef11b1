-- What contracts inside the crate say of standing orders. No promise names any of it.
use Rattle.std.specs.Prelude.{◌≡◌, ◌⊎◌, ◌&&◌, not, ℕ, Bool, List, [], ◌∷◌, ◌++◌, Option, Some, None, slice_get, slice_set}
use Rattle.std.specs.List.{Contains}
use Rattle.node_lines.specs.control_table.Table.{Conflict}
use Rattle.node_lines.specs.layout.Entries.{Site}
use Rattle.node_lines.specs.layout.declared.ids.RouteId.{RouteId}
use Rattle.panel_desk.specs.InTheWay.{IsHindered, StandsAgainst}
use Rattle.panel_desk.specs.StandingOrders.{IsTried, begins_if, is_set_in}
use Rattle.panel_desk.specs.declared.panel_line.PanelLine.{PanelLine}
use Rattle.panel_desk.specs.declared.standing_orders.Waiting.{Waiting}

-- something that is told stands against a route
abbrev pub IsOpposed : Site → List PanelLine → RouteId → Type 0
IsOpposed site lines route = (line : PanelLine) × Contains lines line × StandsAgainst site route line

-- a route that waits longer lets another one by: where it conflicts with it, it is hindered
pub record LetsBy (site : Site) (lines : List PanelLine) (longer route : RouteId) : Type 0 where
  pub hindered : Conflict site route longer → IsHindered site lines longer

-- each of those that wait longer lets it by
abbrev pub IsLetBy : Site → List PanelLine → List Waiting → RouteId → Type 0
IsLetBy site lines earlier route = (other : Waiting) → Contains earlier other → LetsBy site lines other.route route

-- a route begins to wait if it is automatic, by its flag, and free
abbrev pub begins_by : List PanelLine → RouteId → Option Bool → List Waiting → List Waiting
begins_by lines route (Some is_automatic) waiting = begins_if (is_automatic && not (is_set_in lines route)) route waiting
begins_by lines route None waiting = waiting

-- it was tried, and that is noted
pub record TriesOne (now place : ℕ) (waiting : List Waiting) (routes : List RouteId) (later : List Waiting) (after : List RouteId) : Type 0 where
  pub one : Waiting
  pub there : slice_get waiting place ≡ Some one
  pub noted : later ≡ slice_set waiting place (record one { tried = Some now })
  pub added : after ≡ routes ++ one.route ∷ []

-- nothing was done
pub record Passes (waiting : List Waiting) (routes : List RouteId) (later : List Waiting) (after : List RouteId) : Type 0 where
  pub same : later ≡ waiting
  pub none : after ≡ routes

-- the route at a place among those that wait was tried, if it is its turn
abbrev pub TriedOne : Site → List PanelLine → ℕ → ℕ → List Waiting → List RouteId → List Waiting → List RouteId → Type 0
TriedOne site lines now place waiting routes later after =
    (IsTried site lines now waiting place × TriesOne now place waiting routes later after)
    ⊎ ((IsTried site lines now waiting place → ⊥) × Passes waiting routes later after)
