use Rattle.std.proofs.Common.{◌≡◌, ◌-◌, length}
use Rattle.station_run.specs.Panel.{locking}
use Rattle.station_run.proofs.pictured_world.locking.Given as goal

-- none of the routes so far locks it
abbrev pub invariant-loop-number : goal.invariant-loop-number
invariant-loop-number l =
    let rows = l.world.sited.table.rows in
    let routes = l.world.run.interlocking.ixl.routes in
    locking rows routes l.section 0 (length rows) ≡ locking rows routes l.section l.number (length rows - l.number)
