use Rattle.std.proofs.Common.{◌≡◌, replicate}
use Rattle.network_watch.specs.Links.{new_link}
use Rattle.network_watch.proofs.network_watch.NetworkWatch.new.Given as goal

abbrev pub invariant-loop : goal.invariant-loop
invariant-loop l = l.links.items ≡ replicate l.counter new_link
