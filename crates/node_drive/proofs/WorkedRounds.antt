-- The rounds that were worked by hand.
use Rattle.std.proofs.Common.{refl}
use Rattle.std.specs.Fmt.{digits}
use Rattle.node_drive.specs.Worked.{Worked}

pub worked : Worked
unfolding digits
worked = record {
  begins = refl;
  quiet = refl;
  read = refl;
  late = refl;
  recent = refl;
  too_old = refl;
  first = refl;
  empty = refl;
  failed = refl;
  full = refl;
  emptied = refl;
  flooded = refl;
  strange = refl;
  counts = refl;
  waits = refl;
  leaves = refl;
  held = refl;
  in_order = refl;
  one_by_one = refl;
  lines_first = refl;
  early = refl;
  dropped = refl;
  in_time = refl;
  slowly_told = refl;
  kept = refl;
  not_kept = refl;
  unknown = refl;
  faulty = refl;
  again = refl;
}
