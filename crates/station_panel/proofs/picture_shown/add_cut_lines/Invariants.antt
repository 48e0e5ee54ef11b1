use Rattle.std.proofs.Common.{◌≡◌, ◌++◌, drop}
use Rattle.station_panel.specs.Shown.{cut_lines}
use Rattle.station_panel.proofs.picture_shown.add_cut_lines.Given as goal

-- those so far, and after them those that are left
abbrev pub invariant-loop-place : goal.invariant-loop-place
invariant-loop-place l = l.lines.items ++ cut_lines l.place (drop l.place l.cut) ≡ l.initial.lines.items ++ cut_lines 0 l.cut
