use Rattle.std.proofs.Common.{◌≡◌, drop}
use Rattle.node_kinds.specs.Counted.{with_links, with_things}
use Rattle.node_kinds.proofs.counting.count_links.Given as goal

-- what comes of those that are left, after those so far
abbrev pub invariant-loop-place : goal.invariant-loop-place
invariant-loop-place l = with_things l.told l.place (drop l.place l.all) l.numbers ≡ with_links l.told l.all l.fn.numbers
