use Rattle.std.proofs.Common.{◌≡◌, ◌++◌, drop, string_bytes}
use Rattle.simulator_spec.specs.Picture.{route_lines}
use Rattle.simulator.proofs.picture.push_routes.Given as goal

-- what was added so far, and after it the lines that are left
abbrev pub invariant-loop-place : goal.invariant-loop-place
invariant-loop-place l =
    string_bytes l.text ++ route_lines (drop l.place l.world.sited.site.routes) (drop l.place l.world.run.interlocking.ixl.routes)
    ≡ string_bytes l.fn.text ++ route_lines l.world.sited.site.routes l.world.run.interlocking.ixl.routes
