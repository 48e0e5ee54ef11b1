use Rattle.replay.proofs.Noted.{NotedTo}
use Rattle.replay.specs.World.{driven, played}
use Rattle.replay.proofs.drive.note_drives.Given as goal

abbrev pub invariant-loop-place : goal.invariant-loop-place
invariant-loop-place l = NotedTo (driven (played l.world)) l.fn.drives l.place l.drives
