use Rattle.place_index.proofs.Searches.{IsBehind}
use Rattle.place_index.proofs.rings.Rings.last_before.Given as goal

abbrev pub invariant-loop-at : goal.invariant-loop-at
invariant-loop-at l = IsBehind l.buckets l.node l.key l.keys l.at

abbrev pub decreases-loop-at : goal.decreases-loop-at
decreases-loop-at l = l.at
