use Rattle.std.proofs.Common.{◌++◌}
use Rattle.railway_layout.specs.Faults.{all_station_faults, station_faults}
use Rattle.railway_layout.proofs.Added.{each_done, each_more}
use Rattle.railway_layout.proofs.faults.add_stations.Goals as goal

pub loop-number-preserved : goal.loop-number-preserved
loop-number-preserved c =
    each_more (station_faults c.args.stations.now) c.args.stations.now c.loop-number.number c.index-stations-number.result c.loop-number.faults.items c.add_station.new.faults.items
    (c.args.faults.now.items ++ all_station_faults c.args.stations.now) c.loop-number-test.true c.index-stations-number.is c.in_ok-add_station.ensures c.loop-number.invariant

pub returns : goal.returns
returns c =
    each_done (station_faults c.args.stations.now) c.args.stations.now c.loop-number.number c.loop-number.faults.items (c.args.faults.now.items ++ all_station_faults c.args.stations.now)
    c.loop-number-test.false c.loop-number.invariant
