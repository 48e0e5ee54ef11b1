-- The loops that are worked by hand, computed.
use Rattle.std.proofs.Common.{refl}
use Rattle.ixl_state.specs.State.{StateView}
use Rattle.embedded_ixl.specs.Calls.{after_calls}
use Rattle.embedded_ixl.specs.Worked.{Worked}

pub worked : (state : StateView) → Worked state
unfolding after_calls
worked state = record {
  quiet_hears = refl;
  quiet_takes = refl;
  never_empty = refl;
  heard = refl;
  too_old = refl;
  leaves = refl;
  dropped = refl;
  fell = refl;
  not_kept = refl;
}
