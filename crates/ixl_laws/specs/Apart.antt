-- That set routes stand apart.
use Rattle.std.specs.Prelude.{◌≡◌, ◌<◌, ℕ, true}
use Rattle.std.specs.List.{Contains}
use Rattle.ixl_state.specs.sci_telegram.declared.message.Side.{Side}
use Rattle.ixl_state.specs.ixl_spec.Due.{HoldsPoint, HoldsSection, IsRouteOf}
use Rattle.ixl_state.specs.ixl_spec.State.{IxlState, RouteState}
use Rattle.ixl_state.specs.ixl_spec.Table.{Need, Row, Table}
use Rattle.ixl_state.specs.ixl_spec.View.{freed_sections, is_set}
use Rattle.ixl_state.specs.ixl_spec.declared.phase.Phase.{Phase}

-- Two routes, each in its phase: they begin at different signals, neither lists the other, they hold no section in common,
-- and each point that both hold at one side.
pub record StandApart (number other : ℕ) (row other_row : Row) (phase other_phase : Phase) : Type 0 where
  pub entry : row.entry ≡ other_row.entry → ⊥
  pub extra : Contains row.extra other → ⊥
  pub listed : Contains other_row.extra number → ⊥
  pub sections : (section : ℕ) → HoldsSection row phase section → HoldsSection other_row other_phase section → ⊥
  pub points : (point : ℕ) (side another : Side) → HoldsPoint row phase point side → HoldsPoint other_row other_phase point another → side ≡ another

-- so does each pair of set routes
abbrev pub AllApart : Table → IxlState → Type 0
AllApart table ixl = (number other : ℕ) (row other_row : Row) (route another : RouteState) → (number ≡ other → ⊥) → IsRouteOf table ixl number row route → IsRouteOf table ixl other other_row another →
    is_set route.phase ≡ true → is_set another.phase ≡ true → StandApart number other row other_row route.phase another.phase

-- A set route of which nothing is freed. Each point that it requires is held for some section at least.
pub record IsWhole (row : Row) (phase : Phase) : Type 0 where
  pub set : is_set phase ≡ true
  pub freed : freed_sections phase ≡ 0
  pub held : (need : Need) → Contains row.needs need → 0 < need.until

-- Two routes don't conflict: they begin at different signals, neither lists the other, they have no section in common, and
-- each point that both require they require at one side.
pub record DoNotConflict (number other : ℕ) (row other_row : Row) : Type 0 where
  pub entry : row.entry ≡ other_row.entry → ⊥
  pub extra : Contains row.extra other → ⊥
  pub listed : Contains other_row.extra number → ⊥
  pub sections : (section : ℕ) → Contains row.sections section → Contains other_row.sections section → ⊥
  pub points : (need another : Need) → Contains row.needs need → Contains other_row.needs another → need.point ≡ another.point → need.side ≡ another.side
