-- How a route holds a point with authority.
use Rattle.std.specs.Prelude.{◌≡◌, ◌⊎◌, ◌<◌, ℕ, false, IsTrue}
use Rattle.std.specs.FinSet.{contains}
use Rattle.std.specs.List.{Contains}
use Rattle.simulator_spec.specs.ixl_spec.Due.{At, IsClear, LiesInClosed}
use Rattle.simulator_spec.specs.ixl_spec.State.{RouteState}
use Rattle.simulator_spec.specs.ixl_spec.Table.{Need, Row, Table}
use Rattle.simulator_spec.specs.ixl_spec.View.{freed_sections, was_authorised}
use Rattle.simulator_spec.specs.State.{WorldState}
use Rattle.simulator_recovery.specs.HeldPoints.{IsKnownOrOnItsWay}

-- A route holds a point that it requires with authority: it was given authority in its setting, and not all sections are freed for which the
-- point waits.
abbrev pub HoldsWithAuthority : Need → RouteState → Type 0
HoldsWithAuthority need route = IsTrue (was_authorised route.phase) × (freed_sections route.phase < need.until)

-- Each point that a route requires is known at its side, or on its way, or its own section is known to be clear.
abbrev pub HasClearPoints : Table → Row → WorldState → Type 0
HasClearPoints table row world = (need : Need) → Contains row.needs need → IsKnownOrOnItsWay need world ⊎ At table.point_sections need.point (IsClear table world.interlocking.ixl)

-- Each is so, and where its section is clear it isn't closed, and the point got no move in this connection since the route was set.
abbrev pub HasClearPointsYet : Table → ℕ → Row → WorldState → Type 0
HasClearPointsYet table number row world = (need : Need) → Contains row.needs need
    → IsKnownOrOnItsWay need world
    ⊎ (At table.point_sections need.point (IsClear table world.interlocking.ixl) × At world.interlocking.ixl.known_points need.point (λ known. contains known.moved number ≡ false)
    × (LiesInClosed table world.interlocking.ixl need.point → ⊥))
