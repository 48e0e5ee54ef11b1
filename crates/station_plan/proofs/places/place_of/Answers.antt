use Rattle.station_plan.proofs.PlaceFound.{begins, found, goes_on, nowhere}
use Rattle.station_plan.proofs.places.place_of.Goals as goal

pub loop-place-init : goal.loop-place-init
loop-place-init g c = begins g.T.Named.own_name c.args.name.now c.args.entries.now

pub returns-then-eq : goal.returns-then-eq
returns-then-eq g c = found g.T.Named.own_name c.args.name.now c.args.entries.now c.loop-place.place c.index-entries-place.result _ c.loop-place-test.true c.index-entries-place.is (cc) c.loop-place.invariant

pub loop-place-preserved : goal.loop-place-preserved
loop-place-preserved g c = goes_on g.T.Named.own_name c.args.name.now c.args.entries.now c.loop-place.place c.index-entries-place.result _ c.loop-place-test.true c.index-entries-place.is (cc) c.loop-place.invariant

pub returns : goal.returns
returns g c = nowhere g.T.Named.own_name c.args.name.now c.args.entries.now c.loop-place.place _ c.loop-place-test.false c.loop-place.invariant
