use Rattle.station_command.proofs.Lines.{all_joined, joined}
use Rattle.station_command.proofs.line.station.Goals as goal
use Rattle.station_command.specs.Line.{alone_line}

pub loop-entry-preserved : goal.loop-entry-preserved
loop-entry-preserved c =
    joined alone_line _ c.loop-entry.entry-index _ c.loop-entry.line c.in_ok-line.line c.loop-entry-test.true c.loop-entry.invariant c.in_ok-line.ensures

pub returns : goal.returns
returns c = all_joined alone_line _ c.loop-entry.entry-index c.loop-entry.line c.loop-entry-test.false c.loop-entry.invariant
