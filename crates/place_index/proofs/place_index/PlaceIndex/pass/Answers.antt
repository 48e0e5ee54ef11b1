use Rattle.std.proofs.Common.{◌<◌, ap, arith}
use Rattle.place_index.proofs.Whole.{whole-alone, whole-like}
use Rattle.place_index.proofs.place_index.PlaceIndex.pass.Goals as goal

pub invariant_of-self : goal.invariant_of-self
invariant_of-self c =
    let room = ap (λ i. i.room) c.self.view_is
    in let some : 0 < c.self.inside.room = omega (arith, c.requires)
    in (
      whole-like _ _ _ _ _ _ _ _ c.push_reserved.ensures.items c.stand_alone.ensures.newer c.stand_alone.ensures.older (whole-alone _ _ _ _ _ c.self.invariant.0 some),
      omega arith,
      omega arith,
      omega arith,
    )
