use Rattle.std.proofs.Common.{◌≡◌, ℕ, ◌+◌, ◌%◌, ◌<◌, ◌≤◌, length}
use Rattle.place_index.specs.Places.{key_at}
use Rattle.place_index.specs.inside.Rings.{home}
use Rattle.place_index.proofs.Searches.{IsAhead, left}
use Rattle.place_index.proofs.rings.Rings.first_behind.Given as goal

abbrev pub invariant-loop-at : goal.invariant-loop-at
invariant-loop-at l = IsAhead l.buckets l.node l.key l.keys l.at

abbrev pub decreases-loop-at : goal.decreases-loop-at
decreases-loop-at l = left l.buckets (l.buckets + length l.keys) l.at
