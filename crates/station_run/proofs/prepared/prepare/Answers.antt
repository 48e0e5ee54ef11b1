use Rattle.station_record.specs.replay.World.{played}
use Rattle.station_run.proofs.prepared.prepare.Goals as goal

pub returns-clause-prepared : goal.returns-clause-prepared
returns-clause-prepared c =
    let table = c.in_ok-table.table
    in let first = played c.in_ok-station.station
    in let begins = c.in_ok-station.ensures
    in record {
      site = table;
      sound = c.in_ok-table.ensures.sound;
      says = c.in_ok-script.ensures;
      begins = begins;
      safe = c.played_worlds_are_safe.ensures.first table first begins;
    }
