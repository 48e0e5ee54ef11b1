use Rattle.std.proofs.Common.{◌≡◌, drop}
use Rattle.station_drive.specs.Inside.{rises}
use Rattle.station_drive.proofs.waiting_lines.is_in_order.Given as goal

-- the lines so far are in order
abbrev pub invariant-loop-place : goal.invariant-loop-place
invariant-loop-place l = rises 0 l.script ≡ rises l.earlier (drop l.place l.script)
