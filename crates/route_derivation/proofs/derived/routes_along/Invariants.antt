use Rattle.std.proofs.Common.{take}
use Rattle.route_derivation.specs.inside.RouteParts.{AreAlong}
use Rattle.route_derivation.proofs.derived.routes_along.Given as goal

abbrev pub invariant-loop-way : goal.invariant-loop-way
invariant-loop-way l = AreAlong l.made.layout.now l.made.slow.now l.made.rule (take l.way-index l.ways) l.routes.items
