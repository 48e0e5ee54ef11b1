use Rattle.std.proofs.Common.{◌≡◌, ◌<◌, drop}
use Rattle.place_index.specs.Places.{key_behind, key_of}
use Rattle.place_index.proofs.key.key_of.Given as goal

abbrev pub invariant-loop-byte : goal.invariant-loop-byte
invariant-loop-byte l = (l.key < 2147483648) × (key_behind l.key (drop l.byte-index l.bytes) ≡ key_of l.bytes)
