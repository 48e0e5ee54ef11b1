-- The worked rows, computed.
use Rattle.std.proofs.Common.{refl}
use Rattle.network_watch.specs.Worked.{Worked}

pub worked : Worked
worked = record {
  nothing_yet = refl;
  not_yet = refl;
  lost = refl;
  other_is_not = refl;
  told_once = refl;
  back = refl;
  unanswered = refl;
  up_again = refl;
  silent_again = refl;
}
