-- What becomes of a move that is out.
use Rattle.std.specs.Prelude.{◌≡◌, ℕ, List, ◌∷◌, ◌++◌, Some, slice_get}
use Rattle.simulator_spec.specs.layout.Entries.{Site}
use Rattle.simulator_spec.specs.sci_telegram.declared.message.Message.TheVariants as message
use Rattle.simulator_spec.specs.sci_telegram.declared.message.PointMessage.TheVariants.{PointPosition}
use Rattle.simulator_spec.specs.sci_telegram.declared.message.Side.{Side}
use Rattle.simulator_spec.specs.object_host.Told.{item_of}
use Rattle.simulator_spec.specs.point_ctl.Drive.{PointState, own_report}
use Rattle.simulator_spec.specs.simulator_event.declared.event.Event.{Event}
use Rattle.simulator_spec.specs.Flow.{Flowing, position_of}
use Rattle.simulator_spec.specs.Nodes.{point_link}
use Rattle.simulator_spec.specs.State.{ClockedControllerState, WorldState}
use Rattle.simulator_link_laws.specs.HasLinks.{HasLinks, links_in}
use Rattle.simulator_recovery.specs.Rounds.{good_rounds}

-- From one moment to a later one, in one connection, the interlocking's end of a point's link has taken more: the next item after those that
-- it had taken by the first is the report that the point lies at this side.
pub record TakesReport (site : Site) (place : ℕ) (side : Side) (old new : WorldState) : Type 0 where
  pub connection : ℕ
  pub was_in : slice_get old.interlocking.connections (point_link site place) ≡ Some (Some connection)
  pub is_in : slice_get new.interlocking.connections (point_link site place) ≡ Some (Some connection)
  pub was : HasLinks site old
  pub has : HasLinks site new
  pub controller : ClockedControllerState PointState
  pub there : slice_get new.points place ≡ Some controller
  pub more : List (List ℕ)
  pub taken : ((links_in has).ends (point_link site place)).client.taken
      ≡ ((links_in was).ends (point_link site place)).client.taken ++ item_of controller.host (own_report (message.Point (PointPosition (position_of side)))) ∷ more

-- So it has after one of these good rounds.
pub record TakesReportBehind (site : Site) (place : ℕ) (side : Side) (rounds : List (List Event)) (flowing : Flowing) : Type 0 where
  pub front : List (List Event)
  pub rest : List (List Event)
  pub parts : rounds ≡ front ++ rest
  pub takes : TakesReport site place side flowing.state.run (good_rounds front flowing).state.run
