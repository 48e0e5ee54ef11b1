-- What each lane shows at first, as a change of line 0.
use Rattle.std.specs.Prelude.{ℕ}
use Rattle.lane_chart.specs.declared.change.Change.{Change}
use Rattle.station_record.specs.declared.watch.Watch.{Watch}

abbrev pub first_change : ℕ → Watch → Change
first_change time watch = record { line = 0; time = time; lane = watch.lane; seen = watch.seen }
