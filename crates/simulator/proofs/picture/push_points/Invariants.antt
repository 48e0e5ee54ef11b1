use Rattle.std.proofs.Common.{◌≡◌, ◌++◌, drop, string_bytes}
use Rattle.simulator_spec.specs.Picture.{point_lines}
use Rattle.simulator.proofs.picture.push_points.Given as goal

-- what was added so far, and after it the lines that are left
abbrev pub invariant-loop-place : goal.invariant-loop-place
invariant-loop-place l =
    string_bytes l.text ++ point_lines (drop l.place l.world.sited.site.points) (drop l.place l.world.run.positions) (drop l.place l.world.run.points)
    ≡ string_bytes l.fn.text ++ point_lines l.world.sited.site.points l.world.run.positions l.world.run.points
