use Rattle.std.proofs.Common.{◌≡◌, ◌∙◌, List, length, ap, arith}
use Rattle.station_record.specs.replay.ixl_table.Table.{SitedTable}
use Rattle.station_record.specs.replay.ixl_spec.Table.{Row}
use Rattle.station_record.specs.replay.simulator.ixl_state.State.{StateView}
use Rattle.station_run.specs.Panel.{locking}
use Rattle.station_run.proofs.Seen.{locking_next}
use Rattle.station_run.proofs.pictured_world.locking.Goals as goal

pub loop-number-preserved : goal.loop-number-preserved
loop-number-preserved c =
    let world = c.args.world.now
    in let rows = world.sited.table.rows
    in let routes = world.run.interlocking.ixl.routes
    in let rows_are : c.rows-number-end.result.now ≡ rows = c.rows-number-end.ensures ∙ ap (λ (sited : SitedTable). sited.table.rows) c.table.ensures.sited ∙ ap (λ (view : StateView). view.sited.table.rows) c.interlocking.ensures
    in let as_many = ap (λ (rows : List Row). length rows) rows_are
    in locking_next rows routes c.args.section c.loop-number.number (length rows) c.locks.result (locking rows routes c.args.section 0 (length rows)) (omega (arith, c.loop-number-test.true, as_many)) c.locks.ensures c.if-locks.false c.loop-number.invariant
