use Rattle.std.proofs.Common.{◌≡◌, take}
use Rattle.clap.specs.Words.{app_of}
use Rattle.station_command.specs.Line.{alone_line}
use Rattle.station_command.specs.inside.Entries.{with_commands}
use Rattle.station_command.proofs.line.station.Given as goal

abbrev pub invariant-loop-entry : goal.invariant-loop-entry
invariant-loop-entry l = app_of l.line ≡ with_commands alone_line (take l.entry-index l.entry-items)
