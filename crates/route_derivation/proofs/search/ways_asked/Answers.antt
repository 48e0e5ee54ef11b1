use Rattle.std.proofs.Common.{◌<◌, ap, length, arith}
use Rattle.std.proofs.lemmas.Result.{err_from_is_err_and}
use Rattle.route_derivation.specs.inside.WaySearch.{ways_below}
use Rattle.route_derivation.proofs.RouteWays.{search_goes_on, search_stops}
use Rattle.route_derivation.proofs.search.ways_asked.Goals as goal

pub loop-place-init : goal.loop-place-init
unfolding ways_below
loop-place-init c = let e = ap length c.new-found.ensures.items in (c.new-found.ensures.items, omega (arith, e))

pub returns-in_err-add_ways_asked : goal.returns-in_err-add_ways_asked
returns-in_err-add_ways_asked c =
    let e = ap length c.signals-signals.ensures in
    let lt : c.loop-place.place < length c.args.layout.now.signals = omega (arith, e) in
    let p = err_from_is_err_and c.from_residual.result c.from_residual.ensures.1 in
    rw (p.1, p.2) (search_stops c.args.layout.now c.args.entries.now c.loop-place.place (length c.args.layout.now.signals) c.loop-place.found.items c.add_ways_asked.new.found.items c.in_err-add_ways_asked.field-0.0 lt c.loop-place.invariant.0 c.in_err-add_ways_asked.ensures)

pub loop-place-preserved : goal.loop-place-preserved
loop-place-preserved c =
    search_goes_on c.args.layout.now c.args.entries.now c.loop-place.place c.loop-place.found.items c.add_ways_asked.new.found.items c.loop-place.invariant.0 c.loop-place.invariant.1 c.in_ok-add_ways_asked.ensures
