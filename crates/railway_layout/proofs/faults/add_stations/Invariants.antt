use Rattle.std.proofs.Common.{◌≡◌, ◌++◌}
use Rattle.railway_layout.specs.Faults.{all_station_faults, station_faults}
use Rattle.railway_layout.proofs.Added.{with_rest}
use Rattle.railway_layout.proofs.faults.add_stations.Given as goal

abbrev pub invariant-loop-number : goal.invariant-loop-number
invariant-loop-number l = with_rest (station_faults l.stations) l.stations l.number l.faults.items ≡ l.fn.faults.items ++ all_station_faults l.stations
