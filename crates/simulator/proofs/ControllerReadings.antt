-- What is read off the controllers.
use Rattle.std.proofs.Common.{◌≡◌, sym, ap, ℕ, zero, suc, ◌<◌, List, [], ◌∷◌, length, get_or, arith}
use Rattle.simulator_spec.specs.point_ctl.Drive.{PointState}
use Rattle.simulator_spec.specs.Refusals.{driven_at, driven_by}
use Rattle.simulator_spec.specs.State.{ClockedControllerState}

pub driven_read : (place : ℕ) (servers : List (ClockedControllerState PointState)) (server : ClockedControllerState PointState) → place < length servers → server ≡ get_or servers place server → driven_at place servers ≡ driven_by server
driven_read place [] server below is = absurd (omega (arith, below))
driven_read zero (first ∷ others) server below is = ap driven_by (sym is)
driven_read (suc place) (first ∷ others) server below is = driven_read place others server (omega (arith, below)) is
