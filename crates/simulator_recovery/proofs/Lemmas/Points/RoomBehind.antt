-- The window of a point's controller isn't full after good rounds.
use Rattle.simulator_recovery.proofs.Words.Basics.{◌≡◌, ℕ, ◌<◌, ◌≤◌, List, [], ◌∷◌, length, Some, slice_get, refl, arith}
use Rattle.simulator_recovery.proofs.Words.Links.{window_size}
use Rattle.simulator_recovery.proofs.Words.Controllers.{PointState}
use Rattle.simulator_recovery.proofs.Words.Interlockings.{IsTableOf, SitedTable, Table}
use Rattle.simulator_recovery.proofs.Words.Stations.{Site, Once, IsStation, Event, Flowing, round, ClockedControllerState, WorldState, Played, IsReached}
use Rattle.simulator_recovery.proofs.Words.Recovery.{all_tried, good_rounds, LawsBelow}
use Rattle.simulator_recovery.proofs.Lemmas.Rounds.Rounds.{IsAt, rounds_reached}

-- The window of a point's controller isn't full.
abbrev pub HasRoomAt : ℕ → Played → Type 0
HasRoomAt place world = (controller : ClockedControllerState PointState) → slice_get world.run.points place ≡ Some controller → length controller.host.link.waiting < window_size

-- So it is after each of these good rounds.
abbrev pub HasRoomBehind : ℕ → List (List Event) → Flowing → Type 0
HasRoomBehind place [] flowing = Unit {0}
HasRoomBehind place (between ∷ later) flowing =
    HasRoomAt place (all_tried between (round flowing)).state × HasRoomBehind place later (all_tried between (round flowing))

-- few items wait at the controller of a point
abbrev pub FewWaitLaw : Type 0
FewWaitLaw = (site : Site) (table : Table) (world : WorldState) → IsStation site → Once site → IsTableOf site table → IsReached site table world
    → (place : ℕ) (controller : ClockedControllerState PointState)
    → slice_get world.points place ≡ Some controller → length controller.host.link.waiting ≤ 8

module _ (reach : LawsBelow) (few : FewWaitLaw) (sited : SitedTable) (station : IsStation sited.site) (once : Once sited.site) (is_table : IsTableOf sited.site sited.table) (place : ℕ) where
  room_at : (world : Played) → IsAt sited world → HasRoomAt place world
  room_at world is controller there = let wait = few sited.site sited.table world.run station once is_table is.reached place controller there in omega (arith, wait)

  room_on : (rounds : List (List Event)) (flowing : Flowing) → IsAt sited flowing.state → HasRoomBehind place rounds flowing
  room_on [] flowing is = tt
  room_on (between ∷ later) flowing is =
      let next = rounds_reached reach sited (between ∷ []) flowing is
      in (room_at (all_tried between (round flowing)).state next, room_on later (all_tried between (round flowing)) next)

-- After good rounds that follow on others.
pub room_behind : LawsBelow → FewWaitLaw → (flowing : Flowing) → Once flowing.state.sited.site → IsStation flowing.state.sited.site
    → IsTableOf flowing.state.sited.site flowing.state.sited.table
    → IsReached flowing.state.sited.site flowing.state.sited.table flowing.state.run → (place : ℕ) (before rounds : List (List Event)) → HasRoomBehind place rounds (good_rounds before flowing)
room_behind reach few flowing once station is_table reached place before rounds =
    room_on reach few flowing.state.sited station once is_table place rounds (good_rounds before flowing)
    (rounds_reached reach flowing.state.sited before flowing (record { same = refl; reached = reached }))

-- And there itself.
pub has_room : LawsBelow → FewWaitLaw → (flowing : Flowing) → Once flowing.state.sited.site → IsStation flowing.state.sited.site
    → IsTableOf flowing.state.sited.site flowing.state.sited.table → IsReached flowing.state.sited.site flowing.state.sited.table flowing.state.run
    → (place : ℕ) (before : List (List Event)) → HasRoomAt place (good_rounds before flowing).state
has_room reach few flowing once station is_table reached place before =
    room_at reach few flowing.state.sited station once is_table place (good_rounds before flowing).state
    (rounds_reached reach flowing.state.sited before flowing (record { same = refl; reached = reached }))
