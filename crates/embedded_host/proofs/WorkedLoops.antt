-- The loops that are worked by hand, computed.
use Rattle.std.proofs.Common.{refl}
use Rattle.object_host.specs.Behaviour.{Behaviour}
use Rattle.object_host.specs.Host.{HostState}
use Rattle.embedded_host.specs.Calls.{after_calls}
use Rattle.embedded_host.specs.Inputs.{inputs_by}
use Rattle.embedded_host.specs.Worked.{Worked}

pub worked : {Object : Type 0} (does : Behaviour Object) (host : HostState Object) → Worked does host
unfolding after_calls inputs_by
worked does host = record {
  quiet_hears = refl;
  quiet_takes = refl;
  never_empty = refl;
  heard = refl;
  too_old = refl;
  waits = refl;
  leaves = refl;
  waits_again = refl;
  dropped = refl;
  fell = refl;
  not_kept = refl;
  counts = refl;
  counts_not_yet = refl;
}
