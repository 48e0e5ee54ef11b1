use Rattle.replay.specs.World.{played}
use Rattle.station_record.proofs.Lines.{GoesOn}
use Rattle.station_record.proofs.decode.write_events.Given as goal

-- what was written so far, and after it the lines of the events that are left
abbrev pub invariant-loop-entry : goal.invariant-loop-entry
invariant-loop-entry g l =
    GoesOn (played l.fn.world).sited.site (played l.fn.world) l.entries l.entry-index (played l.world) (g.W.Write.contents l.fn.out) (g.W.Write.contents l.out)
