-- The worked rows, computed.
use Rattle.std.proofs.Common.{refl}
use Rattle.datagram_hold.specs.Worked.{Worked}

pub worked : Worked
worked = record {
  in_order = refl;
  overtaken = refl;
  waits = refl;
  lost = refl;
  together = refl;
  late = refl;
  again = refl;
  both = refl;
  twice = refl;
  wraps = refl;
  eight = refl;
  nine = refl;
  anew = refl;
  damaged = refl;
  lets_go = refl;
  full = refl;
  ninth = refl;
  none = refl;
}
