use Rattle.std.proofs.Common.{◌≡◌, ◌++◌, drop}
use Rattle.station_panel.specs.Shown.{jam_lines}
use Rattle.station_panel.proofs.picture_shown.add_jam_lines.Given as goal

-- those so far, and after them those that are left
abbrev pub invariant-loop-place : goal.invariant-loop-place
invariant-loop-place l = l.lines.items ++ jam_lines l.place (drop l.place l.jammed) ≡ l.initial.lines.items ++ jam_lines 0 l.jammed
