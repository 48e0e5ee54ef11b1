use Rattle.std.proofs.Common.{◌≡◌, take}
use Rattle.route_derivation.specs.inside.HindranceSearch.{all_told}
use Rattle.route_derivation.proofs.impossible.all_told.Given as goal

abbrev pub invariant-loop-way : goal.invariant-loop-way
invariant-loop-way l = l.told.items ≡ all_told l.layout (take l.way-index l.ways)
