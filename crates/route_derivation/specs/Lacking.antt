-- The routes that follow from a layout and that its table lacks.
use Rattle.std.specs.Prelude.{◌≤◌, List, length}
use Rattle.std.specs.List.{AllPairs, Contains}
use Rattle.control_table.specs.layout.declared.ids.SignalId.{SignalId}
use Rattle.control_table.specs.layout.Entries.{RouteEntry, Site}
use Rattle.route_derivation.specs.Derived.{IsAsked, IsBefore, SameRoute, SameWay}

-- The table of a layout has a route that leads the way of another.
abbrev pub HasWay : Site → RouteEntry → Type 0
HasWay l r = (q : RouteEntry) × Contains l.routes q × SameWay q r

-- The routes that begin at some signals, and whose way no route of the table leads: each is sound, each that is sound is
-- among them, and they are in order.
pub record AreLacking (l : Site) (entries : List SignalId) (rs : List RouteEntry) : Type 0 where
  pub each : (r : RouteEntry) → Contains rs r → IsAsked l entries r
  pub new : (r : RouteEntry) → Contains rs r → HasWay l r → ⊥
  pub all : (r : RouteEntry) → IsAsked l entries r → (HasWay l r → ⊥) → (q : RouteEntry) × Contains rs q × SameRoute r q
  pub ordered : AllPairs IsBefore rs
  pub few : length rs ≤ 64
