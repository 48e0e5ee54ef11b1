use Rattle.std.proofs.Common.{◌≡◌, ◌++◌, take, drop, map}
use Rattle.network_watch.specs.Links.{ended}
use Rattle.network_watch.proofs.network_watch.end_all.Given as goal

-- at those so far the round has ended
abbrev pub invariant-loop-link : goal.invariant-loop-link
invariant-loop-link l = take l.link-index l.links ++ map (ended l.reading) (drop l.link-index l.links) ≡ map (ended l.reading) l.initial.links
