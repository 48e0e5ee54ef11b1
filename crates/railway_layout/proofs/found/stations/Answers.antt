use Rattle.railway_layout.proofs.StationsFound.{stations_more}
use Rattle.railway_layout.proofs.found.stations.Goals as goal

pub loop-place-preserved : goal.loop-place-preserved
loop-place-preserved c =
    rw c.in_ok-push.ensures.items (stations_more c.args.written.now c.args.layouts.now c.loop-place.stations.items c.loop-place.place c.index-written-place.result c.index-layouts-place.result c.in_ok-station.field-0
    c.loop-place-test.true c.requires c.index-written-place.is c.index-layouts-place.is c.loop-place.invariant (rw c.as_str.ensures.value at c.in_ok-station.ensures))
