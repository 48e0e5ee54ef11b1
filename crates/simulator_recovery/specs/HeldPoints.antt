-- What a route needs of its points as it is set, and how it comes.
use Rattle.std.specs.Prelude.{◌≡◌, ◌≢◌, ◌⊎◌, ℕ, false, List, IsTrue}
use Rattle.std.specs.FinSet.{contains}
use Rattle.std.specs.List.{Contains}
use Rattle.simulator_spec.specs.sci_telegram.declared.message.Side.{Side}
use Rattle.simulator_spec.specs.ixl_spec.Due.{At, HoldsPoint, IsClear, IsRouteOf, Known, LiesInClosed}
use Rattle.simulator_spec.specs.ixl_spec.State.{IxlState, RouteState}
use Rattle.simulator_spec.specs.ixl_spec.Table.{Need, Row, Table}
use Rattle.simulator_spec.specs.ixl_spec.View.{was_authorised}
use Rattle.simulator_spec.specs.ixl_spec.declared.phase.Phase.TheVariants as phase
use Rattle.simulator_spec.specs.simulator_event.declared.event.Event.{Event}
use Rattle.simulator_spec.specs.Flow.{Flowing}
use Rattle.simulator_spec.specs.State.{WorldState}
use Rattle.simulator_recovery.specs.NothingDue.{HasAspect}
use Rattle.simulator_recovery.specs.Rounds.{good_rounds}
use Rattle.simulator_recovery.specs.RoutesCome.{AreKnownWithin}
use Rattle.simulator_recovery.specs.Shows.{ShowsThrough}
use Rattle.simulator_recovery.specs.SidesOfMoves.{AwaitsMove}

-- A route holds a point that was given authority and doesn't proceed any more: it is withdrawn, or its authority has ended.
abbrev pub IsHeldBehindAspect : Table → IxlState → ℕ → Type 0
IsHeldBehindAspect table ixl point = (number : ℕ) × (row : Row) × (route : RouteState) × (side : Side)
    × IsRouteOf table ixl number row route × IsTrue (was_authorised route.phase) × (route.phase ≢ phase.Proceeding) × HoldsPoint row route.phase point side

-- A point may come: its own section is known to be clear, and no such route holds it. Where none with authority does it may be moved, and a
-- route that proceeds holds it where it is known.
pub record MayCome (table : Table) (ixl : IxlState) (point : ℕ) : Type 0 where
  pub clear : At table.point_sections point (IsClear table ixl)
  pub unheld : IsHeldBehindAspect table ixl point → ⊥

-- It may come for this route: it got no move in this connection since the route was set, and lies in no closed section.
pub record IsFreeFor (table : Table) (ixl : IxlState) (number point : ℕ) : Type 0 where
  pub may : MayCome table ixl point
  pub unmoved : At ixl.known_points point (λ known. contains known.moved number ≡ false)
  pub unclosed : LiesInClosed table ixl point → ⊥

-- A point that a route requires is known at its side, or on its way: the interlocking awaits the report of its move.
abbrev pub IsKnownOrOnItsWay : Need → WorldState → Type 0
IsKnownOrOnItsWay need world = Known world.interlocking.ixl need.point need.side ⊎ AwaitsMove need.point world

-- Each point that a route requires is so, or may come.
abbrev pub MayHaveItsPoints : Table → Row → WorldState → Type 0
MayHaveItsPoints table row world = (need : Need) → Contains row.needs need → IsKnownOrOnItsWay need world ⊎ MayCome table world.interlocking.ixl need.point

-- Each is so, or may come for this route. So none has been moved for it in vain.
abbrev pub MayYetHaveItsPoints : Table → ℕ → Row → WorldState → Type 0
MayYetHaveItsPoints table number row world = (need : Need) → Contains row.needs need → IsKnownOrOnItsWay need world ⊎ IsFreeFor table world.interlocking.ixl number need.point

-- A route comes by the end of these rounds: within them each of its points is known at its side at the end of one, after them it has its aspect,
-- and its lamp shows this from the next round on, and through the rounds that follow.
pub record ComesBy (number : ℕ) (row : Row) (rounds still : List (List Event)) (start : Flowing) : Type 0 where
  pub points : AreKnownWithin row rounds start
  pub proceeds : At (good_rounds rounds start).state.run.interlocking.ixl.routes number HasAspect
  pub shows : ShowsThrough row.entry row.aspect still (good_rounds rounds start)
