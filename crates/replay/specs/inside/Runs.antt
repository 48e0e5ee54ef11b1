-- How a run stands.
use Rattle.replay.specs.declared.run.Run.{Run}
use Rattle.simulator.specs.simulator_spec.Flow.{Flowing}
use Rattle.replay.specs.World.{played}

-- its world, how many datagrams its flows have gone past, and its drives
abbrev pub flowing_of : Run → Flowing
flowing_of run = record { state = played run.world; passed = run.passed; drives = run.drives.items }
