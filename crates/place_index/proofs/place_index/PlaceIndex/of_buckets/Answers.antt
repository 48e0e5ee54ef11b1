use Rattle.std.proofs.Common.{refl, arith}
use Rattle.place_index.proofs.Whole.{whole-like, whole-new}
use Rattle.place_index.proofs.place_index.PlaceIndex.of_buckets.Goals as goal

pub invariant_of-result : goal.invariant_of-result
invariant_of-result c = (
  whole-like _ _ _ _ _ _ _ _ c.in_ok-keys.ensures.items refl refl (whole-new _ _ _ _ c.in_ok-rings.ensures.rows c.requires.some c.requires.numbered),
  omega (arith, c.in_ok-keys.ensures.len, c.in_ok-keys.ensures.exact),
  omega (arith, c.in_ok-rings.ensures.newer_room),
  omega (arith, c.in_ok-rings.ensures.older_room),
)
