use Rattle.std.proofs.Common.{◌≡◌, ◌≢◌, ◌<◌, ◌%◌, ap, arith}
use Rattle.place_index.specs.Places.{no_key}
use Rattle.place_index.proofs.Whole.{bucket_within, newest_within, whole-joined, whole-like}
use Rattle.place_index.proofs.place_index.PlaceIndex.push.Goals as goal

pub join-requires-clause-newest : goal.join-requires-clause-newest
join-requires-clause-newest c =
    let whole = c.self.invariant.0
    in let room = ap (λ i. i.room) c.self.view_is
    in let some : 0 < c.self.inside.room = omega (arith, c.requires.room)
    in let there = newest_within _ _ (c.args.key % c.self.inside.buckets) _ _ _ whole (bucket_within _ _ c.args.key _ _ _ whole some)
    in omega (arith, there, whole.newer_length)

pub invariant_of-self : goal.invariant_of-self
invariant_of-self c =
    let whole = c.self.invariant.0
    in let room = ap (λ i. i.room) c.self.view_is
    in let some : 0 < c.self.inside.room = omega (arith, c.requires.room)
    in let is_key : c.args.key ≢ no_key = λ e. omega (arith, c.requires.is_key)
    in (
      whole-like _ _ _ _ _ _ _ _ c.push_reserved.ensures.items c.join.ensures.newer c.join.ensures.older (whole-joined _ _ c.args.key _ _ _ whole some is_key),
      omega arith,
      omega arith,
      omega arith,
    )
