use Rattle.std.proofs.Common.{◌≡◌, ℕ, ◌+◌, take, length}
use Rattle.place_index.proofs.place_index.PlaceIndex.in_buckets.Given as goal

abbrev pub invariant-loop-key : goal.invariant-loop-key
invariant-loop-key l = (l.index.keys ≡ take l.key-index l.self.keys) × (l.index.room + l.key-index ≡ length l.self.keys + l.places)
