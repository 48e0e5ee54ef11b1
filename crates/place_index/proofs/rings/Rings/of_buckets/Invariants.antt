use Rattle.std.proofs.Common.{◌≡◌, ℕ, ◌+◌, ◌<◌, ◌≤◌, length}
use Rattle.std.specs.Vec.{vec_len, vec_capacity}
use Rattle.place_index.specs.inside.Rings.{AreAlone}
use Rattle.place_index.proofs.rings.Rings.of_buckets.Given as goal

abbrev pub invariant-loop-bucket : goal.invariant-loop-bucket
invariant-loop-bucket l = AreAlone l.bucket l.newer.items l.older.items
    × (l.buckets + l.places ≤ vec_capacity l.newer) × (l.buckets + l.places ≤ vec_capacity l.older)
