use Rattle.std.proofs.Common.{◌≡◌, ◌≤◌, ℕ, drop}
use Rattle.station_drive.specs.Rounds.{not_due}
use Rattle.station_drive.proofs.waiting_lines.behind.Given as goal

-- the lines so far are due
abbrev pub invariant-loop-place : goal.invariant-loop-place
invariant-loop-place l = (applied : ℕ) → l.passed ≤ applied → not_due applied (drop l.place l.lines) ≡ not_due applied l.lines
