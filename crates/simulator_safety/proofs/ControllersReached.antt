-- A position that can be reached: the point is there, and its controller drives it.
use Rattle.std.proofs.Common.{◌≡◌, ◌∙◌, ℕ, zero, suc, ◌<◌, nat_le, Bool, true, false, List, [], ◌∷◌, length, Option, Some, None, slice_get, refl, sym, ap, arith}
use Rattle.std.specs.Prelude.{is_some, not}
use Rattle.std.proofs.lemmas.Bool.Decides.{nat_tests}
use Rattle.std.proofs.lemmas.Option.{same_Some}
use Rattle.simulator_link_laws.specs.sci_telegram.declared.message.Position.{Position}
use Rattle.simulator_link_laws.specs.sci_telegram.declared.message.Side.{Side}
use Rattle.simulator_link_laws.specs.layout.declared.ids.PointId.{PointId}
use Rattle.simulator_link_laws.specs.layout.Entries.{Site}
use Rattle.simulator_link_laws.specs.point_ctl.Drive.{PointState}
use Rattle.simulator_link_laws.specs.simulator_event.declared.event.Event.TheVariants as event
use Rattle.simulator_link_laws.specs.simulator_event.refused.Refused.{Refused}
use Rattle.simulator_link_laws.specs.simulator_event.refused.Refused.TheVariants as refused
use Rattle.simulator_link_laws.specs.simulator_spec.Refusals.{driven_at, driven_by, may_reach, refusal, refused_where}
use Rattle.simulator_link_laws.specs.simulator_spec.State.{ClockedControllerState, WorldState}
use Rattle.simulator_safety.proofs.ControllerLists.{none_some}

not_refused : (fails : Bool) (why : Refused) (otherwise : Option Refused) → refused_where fails why otherwise ≡ None → (fails ≡ false) × (otherwise ≡ None)
not_refused true why otherwise e = absurd (none_some why (sym e))
not_refused false why otherwise e = (refl, e)

-- what is driven somewhere is driven
is_driven : (side : Option Side) (position : Position) → not (may_reach side position) ≡ false → is_some side ≡ true
is_driven None position e = absurd (cc (e))
is_driven (Some side) position e = refl

drive_there : (place : ℕ) (servers : List (ClockedControllerState PointState)) (server : ClockedControllerState PointState) → slice_get servers place ≡ Some server → driven_at place servers ≡ driven_by server
drive_there place [] server is = absurd (none_some server is)
drive_there zero (first ∷ others) server is = ap driven_by (same_Some first server is)
drive_there (suc place) (first ∷ others) server is = drive_there place others server is

pub reachable : (site : Site) (point : PointId) (position : Position) (world : WorldState) → refusal site (event.Reach point position) world ≡ None
    → (point.0 < length site.points) × ((server : ClockedControllerState PointState) → slice_get world.points point.0 ≡ Some server → is_some (driven_by server) ≡ true)
unfolding refusal
reachable site point position world none =
    let first = not_refused (nat_le (length site.points) point.0) refused.NoSuchNode _ none
    in let second = not_refused (not (may_reach (driven_at point.0 world.points) position)) refused.NotDriven None first.1
    in (
      below (length site.points) point.0 first.0,
      λ server is. ap is_some (sym (drive_there point.0 world.points server is)) ∙ is_driven (driven_at point.0 world.points) position second.0,
    )
  where
    below : (count place : ℕ) → nat_le count place ≡ false → place < count
    below count place e = grind (arith, nat_tests)
